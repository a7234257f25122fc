-- The outcome of one line. Definitions that name no manual page are this project's own.
use Rattle.std.specs.Prelude.{◌≡◌, ℕ, List, ◌++◌, Bool, true, false, Option, Some, None, Result, Ok, Err}
use Rattle.af_base.specs.Pass.{Machine}
use Rattle.af_base.specs.Run.{Step as MachineStep}
use Rattle.af_base.specs.declared.events.Event.{Event}
use Rattle.af_base.specs.declared.events.Event.TheVariants as event
use Rattle.af_base.specs.declared.events.Reply.{Reply}
use Rattle.af_base.specs.declared.events.Step.{Step}
use Rattle.scm_lines.specs.Forms.{read_form, verb_row}
use Rattle.scm_lines.specs.Versions.{read_in}
use Rattle.scm_lines.specs.Words.{words_of}
use Rattle.scm_lines.specs.declared.fault.LineFault.{LineFault}
use Rattle.scm_lines.specs.declared.fault.LineFault.TheVariants as unread
use Rattle.scm_lines.specs.declared.keywords.Verb.{Verb}
use Rattle.scm_lines.specs.declared.line.Line.TheVariants as line
use Rattle.scm_lines.specs.declared.version.Version.{Version}
use Rattle.scm_run.specs.Watched.{AppendsFront}
use Rattle.scm_run.specs.Gather.{WritesFront}
use Rattle.scm_run.specs.Script.{LineText, Point}
use Rattle.scm_run.specs.Text.{reply_line}
use Rattle.scm_run.specs.declared.fault.RunFault.{RunFault}
use Rattle.scm_run.specs.declared.fault.RunFault.TheVariants as fault

-- The line was done, and its text was appended to the text that is still gathered.
pub record LineDone (old : Point) (bytes gathered left : List ℕ) (before after : Option (List ℕ))
    (events : ℕ) (new : Point) : Type 0 where
  pub text : List ℕ
  pub kept : List ℕ
  pub does : LineText old bytes events text new
  pub moves : WritesFront gathered kept before after
  pub behind : left ≡ kept ++ text

-- The line of this number, in a script of this version so far, was not done, for this reason.
abbrev pub LineStops : Version → List ℕ → ℕ → List ℕ → List ℕ → Option (List ℕ) → Option (List ℕ)
    → RunFault → Type 0
LineStops v bytes number gathered left before after (fault.Unreadable n) = (n ≡ number)
    × (read_in v bytes ≡ None) × WritesFront gathered left before after
LineStops v bytes number gathered left before after fault.Read = ⊥
LineStops v bytes number gathered left before after fault.Write = AppendsFront before after gathered
LineStops v bytes number gathered left before after fault.Memory =
    WritesFront gathered left before after

-- The outcome of the step of process p that this verb and the bytes behind it say. It was done, and
-- the line of its reply is appended to the text; or its words cannot be read, or memory for them
-- was refused, and the text is as before.
abbrev pub StepDone : Verb → Machine → ℕ → List ℕ → List ℕ → Result (Unit {0}) LineFault → List ℕ
    → Machine → Type 0
StepDone k old p rest before (Ok _) after new =
    (does : Step) × (answer : Reply) × (read_form (verb_row k).1 (words_of rest) ≡ Some does)
    × MachineStep old (event.Proc p does) answer new × (after ≡ before ++ reply_line answer)
StepDone k old p rest before (Err unread.Unreadable) after new =
    (read_form (verb_row k).1 (words_of rest) ≡ None) × (after ≡ before)
StepDone k old p rest before (Err unread.Memory) after new = after ≡ before

-- The outcome of the bytes of a line that is read as an event's, whatever lines came before. The
-- event was done, and the line of its reply is appended to the text; or the line is no event's, and
-- nothing changed; or its words cannot be read, and the text is as before.
abbrev pub EventDone : Machine → List ℕ → List ℕ → Result Bool LineFault → List ℕ → Machine → Type 0
EventDone old bytes before (Ok true) after new =
    (does : Event) × (answer : Reply) × ((v : Version) → read_in v bytes ≡ Some (line.Event does))
    × MachineStep old does answer new × (after ≡ before ++ reply_line answer)
EventDone old bytes before (Ok false) after new = (after ≡ before) × (new ≡ old)
EventDone old bytes before (Err unread.Unreadable) after new =
    ((v : Version) → read_in v bytes ≡ None) × (after ≡ before)
EventDone old bytes before (Err unread.Memory) after new = after ≡ before

-- The outcome of the bytes of a line at this point. They were done, and their text is appended; or
-- they cannot be read, or memory for them was refused, and the text is as before.
abbrev pub LineRead : Point → List ℕ → List ℕ → Result ℕ LineFault → List ℕ → Point → Type 0
LineRead old bytes before (Ok events) after new = (text : List ℕ)
    × LineText old bytes events text new × (after ≡ before ++ text)
LineRead old bytes before (Err unread.Unreadable) after new = (read_in old.version bytes ≡ None)
    × (after ≡ before)
LineRead old bytes before (Err unread.Memory) after new = after ≡ before
