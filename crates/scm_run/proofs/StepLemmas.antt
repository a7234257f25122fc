-- A typed call's answer is the reply of a step, and a line by its verb is the line.
use Rattle.std.proofs.Common.{◌≡◌, ℕ, ◌++◌, Bool, true, false, List, Option, Some, None, inr, refl, sym, ap, ◌∙◌, subst}
use Rattle.std.specs.Prelude.{IfErr, IfOk, Result, Ok, Err, if◌then◌else◌}
use Rattle.std.specs.Option.{option_map}
use Rattle.af_base.specs.Pass.{Machine}
use Rattle.af_base.specs.Refusals.{spawn_refusal}
use Rattle.af_base.specs.Run.{Step as MachineStep}
use Rattle.af_base.specs.Steps.{Outcome, SpawnStep, spawned}
use Rattle.af_base.specs.World.{World}
use Rattle.af_base.proofs.Lookups.{some_same}
use Rattle.af_base.proofs.AllowedSteps.{accepted}
use Rattle.af_base.specs.declared.errno.Errno.{Errno}
use Rattle.af_base.specs.declared.errno.Errno.TheVariants.{ENOMEM}
use Rattle.af_base.specs.declared.events.Event.{Event}
use Rattle.af_base.specs.declared.events.Event.TheVariants as event
use Rattle.af_base.specs.declared.events.Reply.{Reply}
use Rattle.af_base.specs.declared.events.Reply.TheVariants as reply
use Rattle.af_base.specs.declared.events.Step.{Step}
use Rattle.af_base.specs.declared.events.Step.TheVariants as step
use Rattle.af_base.specs.Whole.{IsSound}
use Rattle.af_steps.specs.Outcome.{Answers, Does, Refuses, RefusesStart, Starts, error_of, got_reply}
use Rattle.af_steps.specs.declared.messages.Received.{Received}
use Rattle.af_steps.proofs.FoldedReplies.{does-step, refuses-step}
use Rattle.scm_lines.specs.Forms.{line_row, read_form, verb_row}
use Rattle.scm_lines.specs.Versions.{allowed_in, has_line, is_unknown, read_in}
use Rattle.scm_lines.specs.Words.{at_end, no_words, words_of}
use Rattle.scm_lines.specs.declared.fault.LineFault.{LineFault}
use Rattle.scm_lines.specs.declared.fault.LineFault.TheVariants as unread
use Rattle.scm_lines.specs.declared.keywords.Keyword.{Keyword}
use Rattle.scm_lines.specs.declared.keywords.Verb.{Verb}
use Rattle.scm_lines.specs.declared.line.Line.TheVariants as line
use Rattle.scm_lines.specs.declared.version.Version.{Version}
use Rattle.scm_lines.specs.declared.version.Version.TheVariants as version
use Rattle.scm_run.specs.Gather.{WritesFront}
use Rattle.scm_run.specs.Line.{EventDone, LineDone, LineRead, LineStops, StepDone}
use Rattle.scm_run.specs.Script.{Point}
use Rattle.scm_run.specs.Text.{IsShort, reply_line, outcome_reply}
use Rattle.scm_run.specs.declared.fault.RunFault.TheVariants as fault
use Rattle.scm_run.proofs.ShortReplies.{step-short}

-- ---- steps of processes

-- A call's answer, or its error, is the reply of the step.
call_answers : (old new : Machine) (p : ℕ) (s : Step) {T : Type 0} (o : Result T Errno) (tells : T → Reply)
    → IfOk o (λ t. Does old p s (tells t) new) → IfErr o (λ e. Refuses old p s e new) → Answers old p s (outcome_reply tells o) new
call_answers old new p s (Ok t) tells done refused = does-step old p s new (tells t) done
call_answers old new p s (Err e) tells done refused = refuses-step old p s new e refused

-- A step that was read and done by its call, whose answer's line was appended.
pub step_done : (k row : Verb) (old new : Machine) (p : ℕ) (rest before after : List ℕ) (s : Step) {T : Type 0} (o : Result T Errno) (tells : T → Reply)
    → k ≡ row → Some s ≡ read_form (verb_row row).1 (words_of rest)
    → IfOk o (λ t. Does old p s (tells t) new) → IfErr o (λ e. Refuses old p s e new)
    → after ≡ before ++ reply_line (outcome_reply tells o) → StepDone k old p rest before (Ok tt) after new
step_done k row old new p rest before after s o tells is read done refused text =
    (s, outcome_reply tells o, ap (λ v. read_form (verb_row v).1 (words_of rest)) is ∙ sym read, call_answers old new p s o tells done refused, text)

-- ---- events besides steps

-- Where the start of a process is refused, nothing changes.
start_stays : (o : Option Errno) (answer : Reply) (after w : World) (e : Errno) → error_of o false ≡ Some e → Outcome o false answer after w (reply.Refused e) w
start_stays (Some f) answer after w e is = (ap reply.Refused (sym (some_same f e is)), refl)
start_stays None answer after w e is = inr (ap reply.Refused (sym (some_same ENOMEM e is)), refl)

-- A spawn's answer is the reply of the event.
pub spawn_done : (old new : Machine) (uid nofile : ℕ) (privileged : Bool) (o : Result ℕ Errno)
    → IfOk o (λ pid. Starts old uid nofile privileged pid new) → IfErr o (λ e. RefusesStart old nofile e new)
    → MachineStep old (event.Spawn uid nofile privileged) (outcome_reply reply.Pid o) new
spawn_done old new uid nofile privileged (Ok pid) done refused =
    let started = accepted (spawn_refusal old.world nofile) false (reply.Pid old.world.next_pid) (spawned old.world uid nofile privileged) old.world new.world done.0 done.2 in
    (subst (λ (p : ℕ). SpawnStep old.world uid nofile privileged (reply.Pid p) new.world) (sym done.1) started, done.3)
spawn_done old new uid nofile privileged (Err e) done refused =
    let kept = start_stays (spawn_refusal old.world nofile) (reply.Pid old.world.next_pid) (spawned old.world uid nofile privileged) old.world e refused.0 in
    subst (λ (m : Machine). MachineStep old (event.Spawn uid nofile privileged) (reply.Refused e) m) (sym refused.1) (kept, (refl, refl, refl))

-- The answer of a call of the collector is the reply of its event.
pub call_done : (old new : Machine) (e : Event) {T : Type 0} (o : Result T Errno) (tells : T → Reply)
    → IfOk o (λ t. MachineStep old e (tells t) new) → IfErr o (λ error. MachineStep old e (reply.Refused error) new) → MachineStep old e (outcome_reply tells o) new
call_done old new e (Ok t) tells done refused = done
call_done old new e (Err error) tells done refused = refused

-- An event that was read by its keyword and done by its call, whose answer's line was appended.
pub event_done : (k row : Keyword) (old new : Machine) (bytes rest before after : List ℕ) (e : Event) (answer : Reply)
    → ((v : Version) → read_in v bytes ≡ allowed_in v (read_form (line_row k).1 (words_of rest))) → k ≡ row → ((v : Version) → has_line v (line.Event e) ≡ true)
    → Some (line.Event e) ≡ read_form (line_row row).1 (words_of rest) → MachineStep old e answer new → after ≡ before ++ reply_line answer
    → EventDone old bytes before (Ok true) after new
event_done k row old new bytes rest before after e answer read is has fits steps text =
    let said : read_form (line_row k).1 (words_of rest) ≡ Some (line.Event e) = ap (λ (w : Keyword). read_form (line_row w).1 (words_of rest)) is ∙ sym fits in
    (e, answer, λ v. read v ∙ ap (allowed_in v) said ∙ ap (λ b. if b then Some (line.Event e) else None) (has v), steps, text)

-- ---- lines

-- A line of an event comes to what the event does.
pub line_by_event : (v w : Version) (old new : Machine) (bytes before after : List ℕ) → EventDone old bytes before (Ok true) after new
    → w ≡ (if is_unknown v then version.First else v) → LineRead (record { machine = old; version = v }) bytes before (Ok 1) after (record { machine = new; version = w })
line_by_event v w old new bytes before after (does, answer, read, steps, text) later =
    (reply_line answer, record { says = line.Event does; read = read v; does = (refl, (answer, steps, refl)); version = later }, text)

-- A line that is read by its verb comes to what its step does.
pub line_by_step : (k : Verb) (v w : Version) (old new : Machine) (p : ℕ) (bytes rest before after : List ℕ)
    → read_in v bytes ≡ option_map (λ does. line.Event (event.Proc p does)) (read_form (verb_row k).1 (words_of rest))
    → StepDone k old p rest before (Ok tt) after new → w ≡ (if is_unknown v then version.First else v)
    → LineRead (record { machine = old; version = v }) bytes before (Ok 1) after (record { machine = new; version = w })
line_by_step k v w old new p bytes rest before after is (does, answer, read, steps, text) later =
    (reply_line answer, record { says = line.Event (event.Proc p does); read = is ∙ ap (option_map (λ does. line.Event (event.Proc p does))) read; does = (refl, (answer, steps, refl)); version = later }, text)

-- One whose step cannot be read cannot be read.
pub line_by_none : (k : Verb) (v : Version) (old new : Machine) (p : ℕ) (bytes rest before after : List ℕ) (f : LineFault)
    → read_in v bytes ≡ option_map (λ does. line.Event (event.Proc p does)) (read_form (verb_row k).1 (words_of rest))
    → StepDone k old p rest before (Err f) after new
    → LineRead (record { machine = old; version = v }) bytes before (Err f) after (record { machine = new; version = v })
line_by_none k v old new p bytes rest before after unread.Unreadable is (none, same) = (is ∙ ap (option_map (λ does. line.Event (event.Proc p does))) none, same)
line_by_none k v old new p bytes rest before after unread.Memory is same = same

-- A receive's reply is short. The step is found by how it was read.
pub got_short : (old new : Machine) (p : ℕ) (s : Step) (o : Result Received Errno) (read : Option Step) → Some s ≡ read → IsSound old.world → IfOk o (λ got. Does old p s (got_reply got) new) → IfOk o (λ got. IsShort (got_reply got))
got_short old new p s (Ok got) read is sound done = step-short old new (event.Proc p s) (got_reply got) sound (does-step old p s new (got_reply got) done)
got_short old new p s (Err e) read is sound done = tt

-- Where no word is left, a form without words is read.
pub ended_form : {A : Type 0} (x : A) (words : List (List ℕ)) → true ≡ no_words words → Some x ≡ at_end x words
ended_form x words e = rw (← e) refl

-- A list that was copied is the same.
pub send_renamed : (on : ℕ) (bytes fds own : List ℕ) (read : Option Step) → own ≡ fds → read ≡ Some (step.Send on bytes fds) → Some (step.Send on bytes own) ≡ read
send_renamed on bytes fds own read same e = rw same (sym e)

-- A line that was done behind what is gathered.
pub line_done : (old new : Point) (bytes gathered kept left : List ℕ) (before after : Option (List ℕ)) (events : ℕ) → WritesFront gathered kept before after
    → LineRead old bytes kept (Ok events) left new → LineDone old bytes gathered left before after events new
line_done old new bytes gathered kept left before after events moves (text, does, behind) =
    record { text = text; kept = kept; does = does; moves = moves; behind = behind }

-- A line that cannot be read stops the run, and nothing is gathered of it.
pub line_stops : (old new : Point) (bytes gathered kept left : List ℕ) (before after : Option (List ℕ)) (number : ℕ) → WritesFront gathered kept before after
    → LineRead old bytes kept (Err unread.Unreadable) left new → LineStops old.version bytes number gathered left before after (fault.Unreadable number)
line_stops old new bytes gathered kept left before after number moves (none, same) = (refl, none, subst (λ l. WritesFront gathered l before after) (sym same) moves)

-- Memory for it was refused.
pub line_starves : (old new : Point) (bytes gathered kept left : List ℕ) (before after : Option (List ℕ)) (number : ℕ) → WritesFront gathered kept before after
    → LineRead old bytes kept (Err unread.Memory) left new → LineStops old.version bytes number gathered left before after fault.Memory
line_starves old new bytes gathered kept left before after number moves same = subst (λ l. WritesFront gathered l before after) (sym same) moves
