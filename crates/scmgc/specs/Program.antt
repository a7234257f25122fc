-- The answers of the program.
use Rattle.std.specs.Prelude.{◌≡◌, ◌⊎◌, ℕ, zero, suc, List, Bool, true, Option, Some, None, Result, Ok, Err, IfOk, IfErr}
use Rattle.std.specs.Io.KnownBytes.{Appends}
use Rattle.scm_run.specs.Script.{RanToEnd, StopsBy, is_read_fault, is_write_fault}
use Rattle.scm_run.specs.declared.fault.RunFault.{RunFault}
use Rattle.scm_run.specs.declared.fault.RunFault.TheVariants as fault
use Rattle.scmgc.specs.Played.{Played}
use Rattle.scmgc.specs.declared.play.show.Style.{Style}
use Rattle.scmgc.specs.Race.Parts.{LongRaceText}
use Rattle.scmgc.specs.Race.{RaceText}
use Rattle.scmgc.specs.declared.task.Task.{Task}
use Rattle.scmgc.specs.declared.task.Task.TheVariants.{Play, Race, Run}

-- The exit status after a fault: 2 for a line that cannot be read, else 1. This project's profile.
abbrev pub fault_status : RunFault → ℕ
fault_status (fault.Unreadable number) = 2
fault_status fault.Read = 1
fault_status fault.Write = 1
fault_status fault.Memory = 1

-- The exit status after a run.
abbrev pub run_status : Result ℕ RunFault → ℕ
run_status (Ok events) = 0
run_status (Err f) = fault_status f

-- A script was run, and the status tells how that ended.
pub record RanScript (told left before after : Option (List ℕ)) (read_failed write_failed : Bool)
    (status : ℕ) : Type 0 where
  pub outcome : Result ℕ RunFault
  pub done : IfOk outcome (RanToEnd told left before after)
  pub stopped : IfErr outcome (StopsBy told left before after)
  pub read : read_failed ≡ is_read_fault outcome
  pub write : write_failed ≡ is_write_fault outcome
  pub answered : status ≡ run_status outcome

-- The text tells a race that ended well, without checkpoints where their number of events is 0.
abbrev pub TextOf : ℕ → ℕ → ℕ → ℕ → ℕ → List ℕ → Type 0
TextOf workers steps seed budget zero = RaceText workers steps seed budget
TextOf workers steps seed budget (suc checkpoint) =
    LongRaceText workers steps seed budget (suc checkpoint)

-- There was a race that ended well, and its text was written.
abbrev pub RanRace : ℕ → ℕ → ℕ → ℕ → ℕ → Option (List ℕ) → Option (List ℕ) → Type 0
RanRace workers steps seed budget checkpoint before after = (text : List ℕ)
    × TextOf workers steps seed budget checkpoint text × Appends before after text

-- No race was told: nothing was written, or a write failed.
abbrev pub WroteNoRace : Bool → Option (List ℕ) → Bool → Option (List ℕ) → Type 0
WroteNoRace had_failed before has_failed after = ((has_failed ≡ had_failed) × (after ≡ before))
    ⊎ (has_failed ≡ true)

-- A script was played to its end, in this style, where the reader tells it.
abbrev pub PlayedScript : Style → Option (List ℕ) → Option (List ℕ) → Option (List ℕ) → Type 0
PlayedScript style told before after = (input : List ℕ) → told ≡ Some input
    → Played style input before after

-- The task was done to its end: the script on the input was run, or played in this style; or there
-- was a race, and the input was not read. Of a script in a file only the latter can be said: no
-- contract tells what a file has.
abbrev pub Did : Style → Task → Option (List ℕ) → Option (List ℕ) → Option (List ℕ)
    → Option (List ℕ) → Type 0
Did style Run told left before after = (events : ℕ) × RanToEnd told left before after events
Did style (Play None) told left before after = PlayedScript style told before after
Did style (Play (Some path)) told left before after = left ≡ told
Did style (Race workers steps seed budget checkpoint) told left before after = (left ≡ told)
    × RanRace workers steps seed budget checkpoint before after
