-- A send of more numbers than a message may have is refused alike, whichever they are.
use Rattle.std.proofs.Common.{◌≡◌, ◌<◌, ℕ, ℤ, ◌||◌, inl, inr, Bool, true, false, List, ◌∷◌, length, take, drop, take_all, length-take-le, nat_eq, nat_lt, arith, refl, ap, sym, subst, lt-ltb, ltb-false, ltb-true}
use Rattle.std.specs.Prelude.{Option, Some, not, is_none, if◌then◌else◌}
use Rattle.std.specs.FinMap as map
use Rattle.af_base.specs.World.{World}
use Rattle.af_base.specs.Places.{table_at}
use Rattle.af_base.specs.Pass.{Machine}
use Rattle.af_base.specs.Refusals.{RefusalRow, first_fit, ino_on, refusal, socket_at, step_row}
use Rattle.af_base.specs.Run as run
use Rattle.af_base.specs.Steps.{Outcome, answer, effect}
use Rattle.af_base.specs.declared.errno.Errno.{Errno}
use Rattle.af_base.specs.declared.errno.Errno.TheVariants.{EBADF, EINVAL, ENOTSOCK, ESRCH}
use Rattle.af_base.specs.declared.events.Event.TheVariants as event
use Rattle.af_base.specs.declared.events.Reply.{Reply}
use Rattle.af_base.specs.declared.events.Step.TheVariants as step
use Rattle.af_base.specs.declared.limits.TheConstants.{SCM_MAX_FD}
use Rattle.scm_c.specs.Calls.{DoesEvent}

-- The error of the first of these tests that fits, where the fourth does if none before it.
abbrev first_of : Bool → Bool → Bool → Errno
first_of a b c = if a then ESRCH else (if b then EBADF else (if c then ENOTSOCK else EINVAL))

-- If the fourth test fits, the tests behind it do not matter.
fourth : (a b c d : Bool) (more : RefusalRow) → d ≡ true → first_fit ((a, ESRCH) ∷ (b, EBADF) ∷ (c, ENOTSOCK) ∷ (d, EINVAL) ∷ more) ≡ Some (first_of a b c)
fourth true b c d more fits = refl
fourth false true c d more fits = refl
fourth false false true d more fits = refl
fourth false false false d more fits = ap (λ v. if v then Some EINVAL else first_fit more) fits

-- A test that is true makes either of two true.
either : (a b : Bool) → b ≡ true → (a || b) ≡ true
either true b is = refl
either false b is = is

-- A refusal does not depend on the answer and the change that it prevents.
alike : (o o' : Option Errno) (e : Errno) (a a' : Reply) (now now' old new : World) (r : Reply) → o ≡ Some e → o' ≡ Some e → Outcome o false a now old r new → Outcome o' false a' now' old r new
alike o o' e a a' now now' old new r is is' h =
    let refused : Outcome (Some e) false a now old r new = subst (λ k. Outcome k false a now old r new) is h in
    subst (λ k. Outcome k false a' now' old r new) (sym is') refused

module _ (w : World) (p n : ℕ) (bytes : List ℕ) where
  -- The error of a send of too many numbers.
  abbrev error : Errno
  error = first_of (not (map.contains_key w.processes p)) (is_none (table_at w p n)) (is_none (socket_at w (ino_on w p n)))

  -- It does not go by which they are.
  too-many : (attach : List ℕ) → SCM_MAX_FD < length attach → refusal w p (step.Send n bytes attach) ≡ Some error
  too-many attach many = fourth _ _ _ _ (drop 3 (step_row w p (step.Send n bytes attach))) (either (nat_eq (length bytes) 0) _ (lt-ltb SCM_MAX_FD (length attach) many))

-- So a send of the first 254 numbers is a send of all.
first-suffice : (old new : Machine) (p n : ℕ) (bytes attach : List ℕ) (r : Reply) → run.Step old (event.Proc p (step.Send n bytes (take 254 attach))) r new → run.Step old (event.Proc p (step.Send n bytes attach)) r new
first-suffice old new p n bytes attach r h = by (nat_lt 254 (length attach)) refl where
  by : (b : Bool) → nat_lt 254 (length attach) ≡ b → run.Step old (event.Proc p (step.Send n bytes attach)) r new
  by false few = subst (λ xs. run.Step old (event.Proc p (step.Send n bytes xs)) r new) (take_all 254 attach (ltb-false 254 (length attach) few)) h
  by true many =
      let w = old.world in
      let long = ltb-true 254 (length attach) many in
      let first : SCM_MAX_FD < length (take 254 attach) = omega (arith, length-take-le 254 attach (omega (arith, long))) in
      let all : SCM_MAX_FD < length attach = omega (arith, long) in
      let s = step.Send n bytes (take 254 attach) in
      let t = step.Send n bytes attach in
      (alike _ _ (error w p n bytes) (answer w p s) (answer w p t) (effect w p s) (effect w p t) w new.world r (too-many w p n bytes (take 254 attach) first) (too-many w p n bytes attach all) h.0, h.1)

-- The same of a call that does it.
pub sends-all : (shown now : Option Machine) (p n : ℕ) (bytes attach : List ℕ) (code : ℤ) → DoesEvent shown (event.Proc p (step.Send n bytes (take 254 attach))) code now → DoesEvent shown (event.Proc p (step.Send n bytes attach)) code now
sends-all shown now p n bytes attach code h = elim h [
  | inl d ↦ inl (d.0, (d.1.0, d.1.1, d.1.2, d.1.3, (λ sure. absurd sure.room), first-suffice d.1.0 d.1.1 p n bytes attach d.0 d.1.5), d.2)
  | inr lacks ↦ inr lacks
]
