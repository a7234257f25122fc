-- The replies and effects of single steps of a process.
use Rattle.std.proofs.Common.{◌≡◌, ◌≢◌, inl, inr, ℕ, suc, Bool, true, false, ◌∷◌, refl, sym, ap, ◌∙◌, cond, arith}
use Rattle.std.specs.Prelude.{Option, Some, None, if◌then◌else◌, is_none, is_some, nat_eq, not}
use Rattle.std.specs.Option.{option_map_or}
use Rattle.std.specs.FinMap as map
use Rattle.std.proofs.lemmas.Bool.{eq-eqb, false≢true}
use Rattle.af_base.specs.declared.errno.Errno.{Errno}
use Rattle.af_base.specs.declared.errno.Errno.TheVariants.{EBADF, ESRCH}
use Rattle.af_base.specs.declared.events.Reply.{Reply}
use Rattle.af_base.specs.declared.events.Reply.TheVariants as reply
use Rattle.af_base.specs.declared.events.Step.TheVariants as step
use Rattle.af_base.specs.World.{Process}
use Rattle.af_base.specs.Changes.{add_process, install, remove_process}
use Rattle.af_base.specs.Refusals.{ino_on, process_at, refusal, step_row}
use Rattle.af_base.specs.Steps.{Outcome, effect}
use Rattle.af_base.proofs.Lookups.{insert-here, none_some, remove-here, remove-other, told_apart}
use Rattle.af_base.proofs.SoundSteps.{none-fits, process-there}
use Rattle.af_laws.proofs.Outcomes.{settled_stays}
use Rattle.af_laws.specs.Stepping.{CloseNeverFails, Dup2ToItselfChangesNothing, ExitNeverFails, ExitTakesOneTable, ForkCopies}

-- One more than the process that was made.
pid_in : Reply → ℕ
pid_in (reply.Pid p) = suc p
pid_in r = 0

pub fork_copies : ForkCopies
unfolding pid_in
fork_copies old new p child h = by (refusal old p step.Fork) refl h where
  by : (o : Option Errno) → refusal old p step.Fork ≡ o → Outcome o false (reply.Pid old.next_pid) (add_process old (process_at old p)) old (reply.Pid child) new → map.get new.processes child ≡ map.get old.processes p
  by (Some e) is out = absurd (omega (arith, ap pid_in out.0))
  by None is (inr out) = absurd (omega (arith, ap pid_in out.0))
  by None is (inl out) =
      let row = none-fits ((not (map.contains_key old.processes p), ESRCH) ∷ step_row old p step.Fork) is in
      let same : child ≡ old.next_pid = omega (arith, ap pid_in out.0) in
      ap (λ w. map.get w.processes child) out.1.2 ∙ ap (map.get (map.insert old.processes old.next_pid (process_at old p))) same ∙ insert-here old.processes old.next_pid (process_at old p) ∙ sym (process-there old p row.here)

-- Whether it was done.
is_ok : Reply → Bool
is_ok reply.Ok = true
is_ok r = false

pub exit_takes_one_table : ExitTakesOneTable
unfolding is_ok
exit_takes_one_table old new p h = by (refusal old p step.Exit) h where
  by : (o : Option Errno) → Outcome o true reply.Ok (remove_process old p) old reply.Ok new → (map.get new.processes p ≡ None) × ((q : ℕ) → q ≢ p → map.get new.processes q ≡ map.get old.processes q)
  by (Some e) out = absurd (false≢true (sym (ap is_ok out.0)))
  by None out = (
    ap (λ w. map.get w.processes p) out.1.2 ∙ remove-here old.processes p,
    λ q apart. ap (λ w. map.get w.processes q) out.1.2 ∙ remove-other old.processes p q (told_apart q p apart),
  )

pub exit_never_fails : ExitNeverFails
exit_never_fails old new p r there h = by (map.contains_key old.processes p) there h where
  by : (b : Bool) → b ≡ true → Outcome (if not b then Some ESRCH else None) true reply.Ok (remove_process old p) old r new → r ≡ reply.Ok
  by true e out = out.0
  by false e out = absurd (false≢true e)

pub close_never_fails : CloseNeverFails
close_never_fails old new p n f r is h = by (map.get old.processes p) is h where
  outcome : (there free : Bool) → Type 0
  outcome there free = Outcome (if not there then Some ESRCH else if free then Some EBADF else None) true reply.Ok (effect old p (step.Close n)) old r new

  at : (g : Option ℕ) → g ≡ Some f → outcome true (is_none g) → r ≡ reply.Ok
  at None e out = absurd (none_some f e)
  at (Some g) e out = out.0

  by : (o : Option Process) → option_map_or (λ q. map.get q.table n) o None ≡ Some f → outcome (is_some o) (is_none (option_map_or (λ q. map.get q.table n) o None)) → r ≡ reply.Ok
  by None e out = absurd (none_some f e)
  by (Some q) e out = at (map.get q.table n) e out

pub dup2_to_itself_changes_nothing : Dup2ToItselfChangesNothing
dup2_to_itself_changes_nothing old new p n r settled h = by (refusal old p (step.Dup2 n n)) (nat_eq n n) (eq-eqb n n refl) h where
  by : (o : Option Errno) (same : Bool) → same ≡ true → Outcome o same (reply.Fd n) (cond same old (install old p n (ino_on old p n))) old r new → new ≡ old
  by (Some e) same is out = out.1
  by None false is out = absurd (false≢true is)
  by None true is out = (settled_stays old new settled).0 out.1
