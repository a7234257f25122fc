-- Laws of single steps of a process. The definition that names no manual page is of this project's
-- profile (docs/PROFILE.md).
use Rattle.std.specs.Prelude.{◌≡◌, ◌≢◌, ℕ, ◌+◌, IsTrue, List, length, Some, None, nat_eq, if◌then◌else◌}
use Rattle.std.specs.FinMap as map
use Rattle.af_base.specs.declared.events.Reply.{Reply}
use Rattle.af_base.specs.declared.events.Reply.TheVariants as reply
use Rattle.af_base.specs.declared.events.Step.TheVariants as step
use Rattle.af_base.specs.World.{World}
use Rattle.af_base.specs.Places.{table_at}
use Rattle.af_base.specs.Counts.{charged}
use Rattle.af_base.specs.Refusals.{process_at, refusal}
use Rattle.af_base.specs.Unheld.{IsSettled}
use Rattle.af_base.specs.Steps.{ProcessStep, effect}
use Rattle.af_base.specs.Whole.{IsWhole}

-- A child has its parent's user, limit, privilege and table, as they were (fork(2)).
abbrev pub ForkCopies : Type 0
ForkCopies = (old new : World) (p child : ℕ) → ProcessStep old p step.Fork (reply.Pid child) new
    → map.get new.processes child ≡ map.get old.processes p

-- An exit removes the process, and keeps each other process (_exit(2)).
abbrev pub ExitTakesOneTable : Type 0
ExitTakesOneTable = (old new : World) (p : ℕ) → ProcessStep old p step.Exit reply.Ok new
    → (map.get new.processes p ≡ None)
    × ((q : ℕ) → q ≢ p → map.get new.processes q ≡ map.get old.processes q)

-- A process that is there can always exit: there is no other answer (_exit(2)).
abbrev pub ExitNeverFails : Type 0
ExitNeverFails = (old new : World) (p : ℕ) (r : Reply) → IsTrue (map.contains_key old.processes p)
    → ProcessStep old p step.Exit r new → r ≡ reply.Ok

-- An open number can always be closed: there is no other answer.
abbrev pub CloseNeverFails : Type 0
CloseNeverFails = (old new : World) (p n f : ℕ) (r : Reply) → table_at old p n ≡ Some f
    → ProcessStep old p (step.Close n) r new → r ≡ reply.Ok

-- A number put in place of itself changes nothing, whatever the answer (dup2(2)).
abbrev pub Dup2ToItselfChangesNothing : Type 0
Dup2ToItselfChangesNothing = (old new : World) (p n : ℕ) (r : Reply) → IsSettled old
    → ProcessStep old p (step.Dup2 n n) r new → new ≡ old

-- A send that nothing refuses is charged to the user of the process that sends, and to nobody else.
-- The charge is a place for each number that it names, repeats included (unix(7), ETOOMANYREFS;
-- whom it counts is this project's profile).
abbrev pub SendIsChargedToItsSender : Type 0
SendIsChargedToItsSender = (w : World) (p n u : ℕ) (bytes attach : List ℕ) → IsWhole w
    → refusal w p (step.Send n bytes attach) ≡ None
    → charged (effect w p (step.Send n bytes attach)) u
    ≡ charged w u + (if nat_eq u (process_at w p).user then length attach else 0)
