-- The table that turns a word into an event. This project's profile.
use Rattle.std.specs.Prelude.{ℕ, ◌+◌, ◌/◌, ◌%◌, ◌^◌, ◌==◌, nat_le, List, [], ◌∷◌, ◌++◌, replicate, if◌then◌else◌, codes}
use Rattle.std.specs.Fmt.{decimal}
use Rattle.af_base.specs.declared.events.SockType.{SockType}
use Rattle.af_base.specs.declared.events.SockType.TheVariants.{Stream, Seqpacket}
use Rattle.af_base.specs.declared.events.Step.{Step}
use Rattle.af_base.specs.declared.events.Step.TheVariants as step
use Rattle.af_base.specs.declared.events.Event.{Event}
use Rattle.af_base.specs.declared.events.Event.TheVariants as event

-- The part of a word from this bit on, as a number below n.
abbrev pub word_part : ℕ → ℕ → ℕ → ℕ
word_part word bit n = word / 2 ^ bit % n

-- The socket type of a number.
abbrev pub drawn_type : ℕ → SockType
drawn_type n = if n % 2 == 0 then Stream else Seqpacket

-- The name of a worker's listener: the letter w and the worker's number in decimal.
abbrev pub listener_name : ℕ → List ℕ
listener_name worker = codes "w" ++ decimal worker

-- The numbers that go with a message: one, two or none.
abbrev pub drawn_attached : ℕ → ℕ → ℕ → List ℕ
drawn_attached extra first second =
    if nat_le extra 3 then first ∷ []
    else if nat_le extra 5 then first ∷ second ∷ []
    else []

-- The step of a word with n workers: its lowest five bits choose a row, and each row applies up to
-- the number that is tested.
abbrev pub step_of_word : ℕ → ℕ → Step
step_of_word workers word =
    let row = word_part word 0 32 in
    let on = word_part word 8 12 in
    let second = word_part word 16 12 in
    let third = word_part word 24 12 in
    let other = word_part word 32 workers + 1 in
    let extra = word_part word 40 8 in
    if nat_le row 1 then step.Open
    else if nat_le row 3 then step.Dup on
    else if nat_le row 4 then step.Dup2 on second
    else if nat_le row 8 then step.Close on
    else if nat_le row 9 then (if extra == 0 then step.Fork else step.Close on)
    else if nat_le row 11 then step.Pair (drawn_type extra)
    else if nat_le row 12 then step.Socket (drawn_type extra)
    else if nat_le row 15 then step.Connect on (listener_name other)
    else if nat_le row 16 then step.Accept 0
    else if nat_le row 17 then step.Accept on
    else if nat_le row 24 then step.Send on (replicate (extra + 1) 120) (drawn_attached extra second third)
    else step.Recv on 16 4

-- The event of a word: a step of the process that has the worker's number.
abbrev pub event_of_word : ℕ → ℕ → ℕ → Event
event_of_word worker workers word = event.Proc worker (step_of_word workers word)
