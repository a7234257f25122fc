-- A peek adds places to a table alone, at numbers that were free.
use Rattle.std.proofs.Common.{◌≡◌, ℕ, Bool, true, false, not, List, [], ◌∷◌, refl, sym, ap, ◌∙◌, subst, min, length, nat_eq}
use Rattle.std.specs.Prelude.{Option, Some, None, is_none, unwrap_or}
use Rattle.std.specs.Option.{option_and_then}
use Rattle.std.specs.List.{zip}
use Rattle.std.specs.FinMap as map
use Rattle.std.proofs.lemmas.Bool.{false≢true}
use Rattle.af_base.specs.declared.errno.Errno.{Errno}
use Rattle.af_base.specs.declared.errno.Errno.TheVariants.{ESRCH}
use Rattle.af_base.specs.declared.events.Reply.{Reply}
use Rattle.af_base.specs.declared.events.Step.TheVariants as step
use Rattle.af_base.specs.World.{Process, World}
use Rattle.af_base.specs.Places.{queue_in, table_at}
use Rattle.af_base.specs.Counts.{charged, inflight}
use Rattle.af_base.specs.Changes.{install, install_all, set_limit}
use Rattle.af_base.specs.Refusals.{no_socket, process_at, recv_row, refusal, socket_of}
use Rattle.af_base.specs.Steps.{Outcome, ProcessStep, effect, got_at, taken_on}
use Rattle.af_base.specs.Take.{take_from}
use Rattle.af_base.specs.Unheld.{IsSettled, Settles}
use Rattle.af_base.proofs.Free.{AreFree, first-free, free-lowest_free, rest-free}
use Rattle.af_base.proofs.ProcessLimits.{settled-limited, table_at-limited}
use Rattle.af_base.proofs.Lookups.{insert-other, none_some, told_apart}
use Rattle.af_base.proofs.PlaceMoves.{there-install, there-table}
use Rattle.af_base.proofs.StaysSettled.{settled-install}
use Rattle.af_base.proofs.SettledWorlds.{settles_none, settles_once}
use Rattle.af_base.proofs.SoundSteps.{none-fits, process-there}
use Rattle.af_laws.proofs.Outcomes.{outcome_keeps}
use Rattle.af_laws.specs.Peeking.{LimitClosesNothing, PeekChangesNoCharge, PeekChangesNoFlight, PeekChangesNoQueue, PeekSeesWhatIsReceived}

-- A world that is settled settles to itself alone.
still : (effect new : World) → IsSettled effect → Settles effect new → new ≡ effect
still effect new settled s = settles_once effect new effect s (settles_none effect settled)

-- An outcome leaves the world as it was, or leads where its effect does, where that is settled.
pub leads : (P : World → Type 0) (o : Option Errno) (frugal : Bool) (answer : Reply) (effect old : World) (r : Reply) (new : World) → P old → (o ≡ None → IsSettled effect × P effect) → Outcome o frugal answer effect old r new → P new
leads P o frugal answer effect old r new was then = outcome_keeps P o frugal answer effect old r new was (λ none t. let to = then none in subst P (sym (still effect new to.0 t)) to.1)

-- Free numbers taken into use leave a world settled.
settled-install_all : (w : World) (p : ℕ) (q : Process) (ns fs : List ℕ) → IsSettled w
    → map.get w.processes p ≡ Some q → AreFree q ns → IsSettled (install_all w p (zip ns fs))
settled-install_all w p q [] fs s at free = s
settled-install_all w p q (n ∷ ns) [] s at free = s
settled-install_all w p q (n ∷ ns) (f ∷ fs) s at free =
    settled-install_all (install w p n f) p (record q {
      table =
          map.insert q.table n f;
    }) ns fs (settled-install w p n f s (there-table w p n q at
    ∙ first-free q n ns free)) (there-install w p n f q at) (rest-free q n ns f free)

-- They change no file.
pub same-files : (w : World) (p : ℕ) (es : List (ℕ × ℕ)) → (install_all w p es).files ≡ w.files
same-files w p [] = refl
same-files w p (e ∷ es) = same-files (install w p e.0 e.1) p es

-- An open descriptor refers to the same file as before.
open-install_all : (w : World) (p m g : ℕ) (q : Process) (ns fs : List ℕ)
    → map.get w.processes p ≡ Some q → map.get q.table m ≡ Some g → AreFree q ns
    → table_at (install_all w p (zip ns fs)) p m ≡ Some g
open-install_all w p m g q [] fs at is free = there-table w p m q at ∙ is
open-install_all w p m g q (n ∷ ns) [] at is free = there-table w p m q at ∙ is
open-install_all w p m g q (n ∷ ns) (f ∷ fs) at is free =
    let other : nat_eq m n ≡ false = told_apart m n (λ same. none_some g (sym (first-free q n ns free) ∙ ap (map.get q.table) (sym same) ∙ is)) in
    open-install_all (install w p n f) p m g (record q { table = map.insert q.table n f }) ns fs (there-install w p n f q at) (insert-other q.table n f m other ∙ is) (rest-free q n ns f free)

module _ (w : World) (p n max_bytes max_fds : ℕ) where
  -- The numbers that a peek gives, with their files.
  abbrev given : List (ℕ × ℕ)
  given = zip (got_at w p n max_bytes max_fds) (taken_on w p n max_bytes).attached

  -- They are free.
  free : AreFree (process_at w p) (got_at w p n max_bytes max_fds)
  free =
      free-lowest_free (min (length (taken_on w p n max_bytes).attached) max_fds) (process_at w p)

  -- The process is there, where nothing refuses it.
  there : refusal w p (step.Peek n max_bytes max_fds) ≡ None
      → map.get w.processes p ≡ Some (process_at w p)
  there none = process-there w p (none-fits ((not (map.contains_key w.processes p), ESRCH) ∷ recv_row w p n max_bytes) none).here

  -- The effect of a peek is settled.
  peeked-settled : IsSettled w → refusal w p (step.Peek n max_bytes max_fds) ≡ None
      → IsSettled (effect w p (step.Peek n max_bytes max_fds))
  peeked-settled s none = settled-install_all w p (process_at w p) (got_at w p n max_bytes max_fds) (taken_on w p n max_bytes).attached s (there none) free

  -- No file changes.
  peeked-files : (r : Reply) (new : World) → IsSettled w
      → ProcessStep w p (step.Peek n max_bytes max_fds) r new → new.files ≡ w.files
  peeked-files r new s out = leads (λ v. v.files ≡ w.files) (refusal w p (step.Peek n max_bytes max_fds)) false _ (effect w p (step.Peek n max_bytes max_fds)) w r new refl (λ none. (peeked-settled s none, same-files w p given)) out

  -- The descriptor still refers to its file.
  peeked-number : refusal w p (step.Peek n max_bytes max_fds) ≡ None
      → table_at (effect w p (step.Peek n max_bytes max_fds)) p n ≡ table_at w p n
  peeked-number none = by (table_at w p n) refl (none-fits ((not (map.contains_key w.processes p), ESRCH) ∷ recv_row w p n max_bytes) none).rest.here where
    by : (o : Option ℕ) → table_at w p n ≡ o → is_none o ≡ false
        → table_at (effect w p (step.Peek n max_bytes max_fds)) p n ≡ o
    by None e d = absurd (false≢true (sym d))
    by (Some g) e d = open-install_all w p n g (process_at w p) (got_at w p n max_bytes max_fds) (taken_on w p n max_bytes).attached (there none) (sym (there-table w p n (process_at w p) (there none)) ∙ e) free

  -- The result of a receive is the same, if the files are and the descriptor refers to the same
  -- one.
  same-taken : (v : World) (asked : ℕ) → v.files ≡ w.files → table_at v p n ≡ table_at w p n
      → taken_on v p n asked ≡ taken_on w p n asked
  same-taken v asked files number = λ i.
      let s = unwrap_or (option_and_then (λ f. option_and_then socket_of (map.get (files i) f)) (number i)) no_socket in
      take_from s.kind s.queue asked

  -- A receive takes after a peek what it took before.
  peeked-taken : (r : Reply) (new : World) → IsSettled w
      → ProcessStep w p (step.Peek n max_bytes max_fds) r new → (asked : ℕ)
      → taken_on new p n asked ≡ taken_on w p n asked
  peeked-taken r new s out asked = leads (λ v. taken_on v p n asked ≡ taken_on w p n asked) (refusal w p (step.Peek n max_bytes max_fds)) false _ (effect w p (step.Peek n max_bytes max_fds)) w r new refl
      (λ none. (peeked-settled s none, same-taken (effect w p (step.Peek n max_bytes max_fds)) asked (same-files w p given) (peeked-number none))) out

-- No queue changes.
pub peek_changes_no_queue : PeekChangesNoQueue
peek_changes_no_queue old new p n max_bytes max_fds r s out q =
    ap (λ fs. queue_in fs q) (peeked-files old p n max_bytes max_fds r new s out)

-- No charge changes.
pub peek_changes_no_charge : PeekChangesNoCharge
peek_changes_no_charge old new p n max_bytes max_fds r s out u = ap (λ fs. charged (record old { files = fs }) u) (peeked-files old p n max_bytes max_fds r new s out)

-- No in-flight count changes.
pub peek_changes_no_flight : PeekChangesNoFlight
peek_changes_no_flight old new p n max_bytes max_fds r s out f = ap (λ fs. inflight (record old { files = fs }) f) (peeked-files old p n max_bytes max_fds r new s out)

-- The same is received afterwards.
pub peek_sees_what_is_received : PeekSeesWhatIsReceived
peek_sees_what_is_received old new p n max_bytes max_fds r s out asked =
    peeked-taken old p n max_bytes max_fds r new s out asked

-- No number is closed.
pub limit_closes_nothing : LimitClosesNothing
limit_closes_nothing old new p limit r s out q n =
    leads (λ v. table_at v q n ≡ table_at old q n) (refusal old p (step.Limit limit)) true _ (set_limit old p limit) old r new refl (λ none. (settled-limited old p limit s, table_at-limited old p limit q n)) out
