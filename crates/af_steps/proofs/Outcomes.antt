-- A step that was done, one that is refused, and one for which memory was refused.
use Rattle.std.proofs.Common.{◌≡◌, ℕ, false, refl, sym, ap, ◌∙◌, subst}
use Rattle.std.specs.Prelude.{IfErr, IsErrAnd, IsOk, Option, Some, None, Result, Ok, Err}
use Rattle.std.specs.Option.{ok_or}
use Rattle.std.proofs.lemmas.Bool.{false≢true}
use Rattle.af_base.specs.declared.errno.Errno.{Errno}
use Rattle.af_base.specs.declared.errno.Errno.TheVariants.{ENOMEM}
use Rattle.af_base.specs.declared.events.Reply.{Reply}
use Rattle.af_base.specs.declared.events.Step.{Step}
use Rattle.af_base.specs.Pass.{Machine}
use Rattle.af_base.specs.Refusals.{refusal}
use Rattle.af_base.specs.Steps.{answer, effect, needs_no_memory}
use Rattle.af_base.specs.Unheld.{Settles}
use Rattle.af_base.specs.Whole.{IsSound}
use Rattle.af_base.specs.World.{World}
use Rattle.af_base.proofs.Lookups.{none_some}
use Rattle.af_base.proofs.SettledWorlds.{settles_none}
use Rattle.af_collect.specs.StoreView.{StoreView}
use Rattle.af_steps.specs.Outcome.{Does, Refuses, error_of, step_error}
use Rattle.af_steps.specs.Rooms.{CannotFail}

-- A test fits: so the step can fail.
pub can-fail : {X : Type 0} (answered : Result X Errno) {w : World} {p : ℕ} {s : Step} (e : Errno) → refusal w p s ≡ Some e → CannotFail w p s → IsOk answered
can-fail answered e is sure = absurd (none_some e (sym sure.fits ∙ is))

-- An engine that shows `old`, and has this inside.
module _ {inside old : Machine} (shown : inside ≡ old) (p : ℕ) (s : Step) where
  -- The world inside.
  abbrev w : World
  w = inside.world

  -- No test fits: it did the step, and its store has the changed world, settled.
  pub does : (new : StoreView) (r : Reply) (placed : World) → refusal w p s ≡ None → answer w p s ≡ r → effect w p s ≡ placed → Settles placed new.world → new.pass ≡ inside.pass → new.since ≡ inside.since
      → Does old p s r (record { world = new.world; pass = new.pass; last_pass = inside.last_pass; since = new.since })
  does new r placed fits answers leads settles pass since =
      subst (λ (m : Machine). Does m p s r (record { world = new.world; pass = new.pass; last_pass = inside.last_pass; since = new.since })) shown (fits, sym answers, subst (λ v. Settles v new.world) (sym leads) settles, (pass, refl, since))

  -- No test fits, and the step changes nothing.
  pub does-nothing : (r : Reply) → refusal w p s ≡ None → answer w p s ≡ r → effect w p s ≡ w → IsSound w → Does old p s r old
  does-nothing r fits answers leads sound = subst (λ (m : Machine). Does m p s r m) shown (fits, sym answers, subst (λ v. Settles v w) (sym leads) (settles_none w sound.settled), (refl, refl, refl))

  -- The step cannot fail in the world inside either.
  sure-inside : CannotFail old.world p s → CannotFail w p s
  sure-inside sure = subst (λ (m : Machine). CannotFail m.world p s) (sym shown) sure

  -- A test fits: so the step can fail.
  pub not-refused : {X : Type 0} (answered : Result X Errno) (e : Errno) → refusal w p s ≡ Some e → CannotFail old.world p s → IsOk answered
  not-refused answered e is sure = can-fail answered e is (sure-inside sure)

  -- What the step asked for was refused: so it can fail.
  pub not-starved : {X A E : Type 0} (answered : Result X Errno) {asked : Result A E} {e : E} → asked ≡ Err e → (CannotFail w p s → IsOk asked) → CannotFail old.world p s → IsOk answered
  not-starved answered is ready sure = absurd (false≢true (subst IsOk is (ready (sure-inside sure))))

  module _ {X : Type 0} (new : Machine) (answered : Result X Errno) (same : new ≡ old) where
    -- The error that it answers is the one that can come.
    by-error : (e : Errno) → answered ≡ Err e → step_error w p s ≡ Some e → IfErr answered (λ e. Refuses old p s e new)
    by-error e is error = subst (λ a. IfErr a (λ e. Refuses old p s e new)) (sym is) (subst (λ (m : Machine). step_error m.world p s ≡ Some e) shown error, same)

    -- A test fits: it refused the step by its error.
    pub refuses : (e : Errno) → answered ≡ Err e → refusal w p s ≡ Some e → IfErr answered (λ e. Refuses old p s e new)
    refuses e is fits = by-error e is (ap (λ o. error_of o (needs_no_memory s)) fits)

    -- No test fits, and memory was refused.
    pub starves : answered ≡ Err ENOMEM → refusal w p s ≡ None → needs_no_memory s ≡ false → IfErr answered (λ e. Refuses old p s e new)
    starves is fits may = by-error ENOMEM is (ap (λ o. error_of o (needs_no_memory s)) fits ∙ ap (error_of None) may)

-- The mapped error is the reply.
pub answered-is : {X : Type 0} (answered : Result X Errno) (e : Errno) → IsErrAnd answered (λ x. x ≡ e) → answered ≡ Err e
answered-is (Ok x) e is = absurd is
answered-is (Err x) e is = ap Err is

-- The answer says what the mapped error says.
pub told : {X : Type 0} (P : Errno → Type 0) (answered : Result X Errno) (e : Errno) → IsErrAnd answered (λ x. x ≡ e) → P e → IfErr answered P
told P answered e is holds = subst (λ a. IfErr a P) (sym (answered-is answered e is)) holds

-- An engine that shows `old`, has this inside, and answers an error.
module _ {inside old : Machine} (shown : inside ≡ old) (p : ℕ) (s : Step) {X : Type 0} (answered : Result X Errno) (e : Errno) (is : IsErrAnd answered (λ x. x ≡ e)) where
  -- A test fits, and nothing was changed.
  pub turned-down : refusal inside.world p s ≡ Some e → IfErr answered (λ x. Refuses old p s x old)
  turned-down fits = refuses shown p s old answered refl e (answered-is answered e is) fits

-- If an error replaces a missing row, the row is missing, and that is the error.
pub missing : {A : Type 0} (o : Option A) (d e : Errno) → Err e ≡ ok_or o d → (o ≡ None) × (e ≡ d)
missing None d e is = (refl, cc)
missing (Some x) d e is = absurd cc
