-- The run of a script: what its lines do, what is written of them, and how it may stop.
--
-- Contracts know the bytes of some readers and writers, as of those over memory. Of others, as of
-- the standard streams, they do not: these show `None`, and then nothing is claimed.
use Rattle.std.specs.Prelude.{◌≡◌, ◌⊎◌, ℕ, ◌==◌, ◌+◌, ◌-◌, ◌<◌, List, [], ◌∷◌, ◌++◌, take, slice_get, map, Bool, true, false, Option, Some, None, Result, Ok, Err, ⊤}
use Rattle.std.specs.List.{All, AllByRecursion, flat_map}
use Rattle.std.specs.Str.Lines.{lines, strip_carriage_return}
use Rattle.std.specs.Io.KnownBytes.{Appends, Consumes, IsAtEnd}
use Rattle.af_base.specs.Pass.{Machine}
use Rattle.af_base.specs.Run.{fresh, Step}
use Rattle.af_base.specs.declared.errno.Errno.TheVariants.{ENOMEM}
use Rattle.af_base.specs.declared.events.Reply.{Reply}
use Rattle.af_base.specs.declared.events.Reply.TheVariants as reply
use Rattle.scm_lines.specs.Versions.{read_in, version_after}
use Rattle.scm_lines.specs.declared.line.Line.{Line}
use Rattle.scm_lines.specs.declared.line.Line.TheVariants as line
use Rattle.scm_lines.specs.declared.version.Version.{Version}
use Rattle.scm_lines.specs.declared.version.Version.TheVariants as version
use Rattle.scm_run.specs.Watched.{AppendsFront}
use Rattle.scm_run.specs.Text.{reply_line}
use Rattle.scm_run.specs.Report.{IsReportText}
use Rattle.scm_run.specs.declared.fault.RunFault.{RunFault}
use Rattle.scm_run.specs.declared.fault.RunFault.TheVariants as fault

-- ---- the text of a run

-- Silence and a version do nothing; an event is one step of the machine, and its text is the
-- reply's line; a report changes nothing, and its text speaks of the world at that point, or is the
-- line of ENOMEM.
abbrev pub LineEffect : Machine → Line → ℕ → List ℕ → Machine → Type 0
LineEffect old line.Silence events text new = (events ≡ 0) × (text ≡ []) × (new ≡ old)
LineEffect old (line.Version named) events text new = (events ≡ 0) × (text ≡ []) × (new ≡ old)
LineEffect old (line.Event event) events text new = (events ≡ 1)
    × ((reply : Reply) × Step old event reply new × (text ≡ reply_line reply))
LineEffect old (line.Report report) events text new = (events ≡ 0)
    × (IsReportText old.world report text ⊎ (text ≡ reply_line (reply.Refused ENOMEM)))
    × (new ≡ old)

-- The state of a script between two lines: the machine, and the version by its lines so far.
pub record Point : Type 0 where
  pub machine : Machine
  pub version : Version

-- The state of a script with this machine and this version.
abbrev pub point_of : Machine → Version → Point
point_of machine version = record { machine = machine; version = version }

-- Where it begins: the fresh machine, and no version yet.
abbrev pub first_point : Point
first_point = record { machine = fresh; version = version.Unknown }

-- The bytes of a line can be read at this point, lead from old to new, do this many events and have
-- this text.
pub record LineText (old : Point) (bytes : List ℕ) (events : ℕ) (text : List ℕ)
    (new : Point) : Type 0 where
  pub says : Line
  pub read : read_in old.version bytes ≡ Some says
  pub does : LineEffect old.machine says events text new.machine
  pub version : new.version ≡ version_after old.version says

-- These lines, one after another, can be read, lead from old to new, do this many events and have
-- this text.
abbrev pub RunText : Point → List (List ℕ) → ℕ → List ℕ → Point → Type 0
RunText old [] events text new = (events ≡ 0) × (text ≡ []) × (new ≡ old)
RunText old (bytes ∷ others) events text new =
    (mid : Point) × (first : ℕ) × (written : List ℕ) × (more : ℕ) × (rest : List ℕ)
    × LineText old bytes first written mid × RunText mid others more rest new
    × (events ≡ first + more) × (text ≡ written ++ rest)

-- The writer was given the text of a run of these lines from the first point.
pub record Wrote (script : List (List ℕ)) (events : ℕ)
    (before after : Option (List ℕ)) : Type 0 where
  pub text : List ℕ
  pub point : Point
  pub runs : RunText first_point script events text point
  pub wrote : Appends before after text

-- The writer was given a beginning of the text of a run of these lines from the first point.
pub record WroteBeginning (script : List (List ℕ)) (before after : Option (List ℕ)) : Type 0 where
  pub events : ℕ
  pub text : List ℕ
  pub point : Point
  pub runs : RunText first_point script events text point
  pub wrote : AppendsFront before after text

-- ---- how a run ends

-- The reader had this input to give, where it tells.
abbrev pub HasInput : Option (List ℕ) → List ℕ → Type 0
HasInput None input = ⊤
HasInput (Some bytes) input = bytes ≡ input

-- The reader was read to its end, every line of its input was run, and their text was written.
pub record RanToEnd (told left before after : Option (List ℕ)) (events : ℕ) : Type 0 where
  pub input : List ℕ
  pub tells : HasInput told input
  pub ended : IsAtEnd left
  pub all : Wrote (lines input) events before after

-- The line of this number, from 1, is the first that cannot be read where the lines before it lead,
-- and their text was written.
pub record RanToUnreadable (input : List ℕ) (before after : Option (List ℕ))
    (number : ℕ) : Type 0 where
  pub bad : List ℕ
  pub events : ℕ
  pub counted : 0 < number
  pub at : slice_get (lines input) (number - 1) ≡ Some bad
  pub all : Wrote (take (number - 1) (lines input)) events before after
  pub unreadable : read_in all.point.version bad ≡ None

-- A line with its line feed.
abbrev pub ended_by_feed : List ℕ → List ℕ
ended_by_feed line = line ++ 10 ∷ []

-- There is no line feed in these bytes.
abbrev pub NoFeed : List ℕ → Type 0
NoFeed = All (λ b. (b == 10) ≡ false)

-- The bytes are whole lines, each with its line feed, and then some bytes without one.
pub record IsCut (bytes : List ℕ) (whole : List (List ℕ)) (rest : List ℕ) : Type 0 where
  pub joined : bytes ≡ flat_map ended_by_feed whole ++ rest
  pub each : AllByRecursion NoFeed whole
  pub open_end : NoFeed rest

-- Of the bytes that were read, just the lines whose end was read were run, and their text was
-- written.
pub record RanAsRead (told left before after : Option (List ℕ)) : Type 0 where
  pub taken : List ℕ
  pub whole : List (List ℕ)
  pub rest : List ℕ
  pub events : ℕ
  pub consumed : Consumes told left taken
  pub cut : IsCut taken whole rest
  pub all : Wrote (map strip_carriage_return whole) events before after

-- Some lines, from the first on, were run, and their text was written.
pub record RanFirst (input : List ℕ) (before after : Option (List ℕ)) : Type 0 where
  pub count : ℕ
  pub events : ℕ
  pub all : Wrote (take count (lines input)) events before after

-- Some lines, from the first on, were run, and a beginning of their text was written.
pub record WroteFirst (input : List ℕ) (before after : Option (List ℕ)) : Type 0 where
  pub count : ℕ
  pub beginning : WroteBeginning (take count (lines input)) before after

-- The meaning of a fault that is not the reader's, for the input.
abbrev pub FaultAt : List ℕ → Option (List ℕ) → Option (List ℕ) → RunFault → Type 0
FaultAt input before after (fault.Unreadable number) = RanToUnreadable input before after number
FaultAt input before after fault.Read = ⊥
FaultAt input before after fault.Write = WroteFirst input before after
FaultAt input before after fault.Memory = RanFirst input before after

-- The meaning of a fault for the reader's input and the written text.
abbrev pub StopsBy : Option (List ℕ) → Option (List ℕ) → Option (List ℕ) → Option (List ℕ)
    → RunFault → Type 0
StopsBy told left before after fault.Read = RanAsRead told left before after
StopsBy told left before after other =
    (input : List ℕ) × HasInput told input × FaultAt input before after other

-- The fault is that writing failed.
abbrev pub is_write_fault : {A : Type 0} → Result A RunFault → Bool
is_write_fault (Ok x) = false
is_write_fault (Err (fault.Unreadable number)) = false
is_write_fault (Err fault.Read) = false
is_write_fault (Err fault.Write) = true
is_write_fault (Err fault.Memory) = false

-- The fault is that reading failed.
abbrev pub is_read_fault : {A : Type 0} → Result A RunFault → Bool
is_read_fault (Ok x) = false
is_read_fault (Err (fault.Unreadable number)) = false
is_read_fault (Err fault.Read) = true
is_read_fault (Err fault.Write) = false
is_read_fault (Err fault.Memory) = false
