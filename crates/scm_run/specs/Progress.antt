-- How far a run has come. Definitions that name no manual page are this project's own.
use Rattle.std.specs.Prelude.{◌≡◌, ℕ, ◌+◌, nat_le, List, [], ◌++◌, Option, Bool, length, map}
use Rattle.std.specs.Str.Lines.{lines, strip_carriage_return}
use Rattle.std.specs.Io.KnownBytes.{Appends}
use Rattle.scm_run.specs.Watched.{AppendsFront}
use Rattle.scm_lines.specs.declared.line.TheConstants.{MAX_LINE}
use Rattle.scm_run.specs.Script.{IsCut, Point, RunText, FaultAt, first_point}
use Rattle.scm_run.specs.declared.fault.RunFault.{RunFault}
use Rattle.scm_run.specs.declared.fault.RunFault.TheVariants as fault

-- The state of a script, the bytes after the last line feed, the text that is not written yet, and
-- how many events and lines were done.
pub record RunProgress : Type 0 where
  pub point : Point
  pub pending : List ℕ
  pub gathered : List ℕ
  pub events : ℕ
  pub done : ℕ

-- Nothing was read yet.
abbrev pub nothing_read : RunProgress
nothing_read = record { point = first_point; pending = []; gathered = []; events = 0; done = 0 }

-- These bytes were taken, and the whole lines in them were run, with this text.
pub record Runs (taken text : List ℕ) (state : RunProgress) : Type 0 where
  pub whole : List (List ℕ)
  pub cut : IsCut taken whole state.pending
  pub runs : RunText first_point (map strip_carriage_return whole) state.events text state.point
  pub counted : state.done ≡ length whole

-- These bytes were taken, the whole lines in them were run, and their text was written but for what
-- is gathered.
pub record Ran (taken : List ℕ) (before after : Option (List ℕ))
    (state : RunProgress) : Type 0 where
  pub written : List ℕ
  pub runs : Runs taken (written ++ state.gathered) state
  pub wrote : Appends before after written

-- From any state, a run read these bytes more.
abbrev pub Took : List ℕ → Option (List ℕ) → RunProgress → Option (List ℕ) → RunProgress → Type 0
Took bytes was old is new = (taken : List ℕ) (before : Option (List ℕ)) → Ran taken before was old
    → Ran (taken ++ bytes) before is new

-- All lines of this input were run, and their text was written but for what is gathered.
pub record RanAll (input : List ℕ) (before after : Option (List ℕ))
    (state : RunProgress) : Type 0 where
  pub written : List ℕ
  pub runs : RunText first_point (lines input) state.events (written ++ state.gathered) state.point
  pub wrote : Appends before after written

-- A line that begins with these bytes may be short enough, the one carriage return at its end left
-- out.
abbrev pub may_fit : List ℕ → Bool
may_fit bytes = nat_le (length (strip_carriage_return bytes)) MAX_LINE

-- The fault of a line that is too long, after this many lines.
abbrev pub TooLong : ℕ → RunFault → Type 0
TooLong done (fault.Unreadable number) = number ≡ done + 1
TooLong done fault.Read = ⊥
TooLong done fault.Write = ⊥
TooLong done fault.Memory = Unit {0}

-- The meaning of a fault, however the input continues after these bytes.
abbrev pub FaultIn : List ℕ → Option (List ℕ) → Option (List ℕ) → RunFault → Type 0
FaultIn bytes before after f = (more : List ℕ) → FaultAt (bytes ++ more) before after f

-- Some text was written and some is gathered: the fault is so once all of it is written, and it is
-- the writer's where only a beginning is.
pub record Waits (says : Option (List ℕ) → RunFault → Type 0) (before after : Option (List ℕ))
    (gathered : List ℕ) (f : RunFault) : Type 0 where
  pub written : List ℕ
  pub wrote : Appends before after written
  pub whole : (last : Option (List ℕ)) → Appends before last (written ++ gathered) → says last f
  pub part : (last : Option (List ℕ)) → AppendsFront before last (written ++ gathered)
      → says last fault.Write

-- A fault, before what is gathered is written: one of the writer is so already.
abbrev pub Halts : (Option (List ℕ) → RunFault → Type 0) → Option (List ℕ) → Option (List ℕ)
    → List ℕ → RunFault → Type 0
Halts says before after gathered (fault.Unreadable n) =
    Waits says before after gathered (fault.Unreadable n)
Halts says before after gathered fault.Read = ⊥
Halts says before after gathered fault.Write = says after fault.Write
Halts says before after gathered fault.Memory = Waits says before after gathered fault.Memory

-- From any state, a run stopped at this fault in these bytes more.
abbrev pub Stopped : List ℕ → Option (List ℕ) → RunProgress → Option (List ℕ) → RunProgress
    → RunFault → Type 0
Stopped bytes was old is new f = (taken : List ℕ) (before : Option (List ℕ))
    → Ran taken before was old → Halts (FaultIn (taken ++ bytes) before) before is new.gathered f
