-- Laws of steps and of runs. Definitions that name no manual page are of this project's profile
-- (docs/PROFILE.md).
use Rattle.std.specs.Prelude.{◌≡◌, ◌≤◌, ◌⊎◌, ◌↔◌, ◌+◌, ◌*◌, ◌||◌, ℕ, IsTrue, List, ◌++◌, nat_eq, nat_lt}
use Rattle.std.specs.List.{All}
use Rattle.std.specs.FinMap as map
use Rattle.af_base.specs.declared.events.Event.{Event}
use Rattle.af_base.specs.declared.events.Event.TheVariants as event
use Rattle.af_base.specs.declared.errno.Errno.{Errno}
use Rattle.af_base.specs.declared.events.Reply.{Reply}
use Rattle.af_base.specs.declared.events.Reply.TheVariants as reply
use Rattle.af_base.specs.declared.limits.TheConstants.{MAX_BUDGET}
use Rattle.af_base.specs.Pass.{Idle, IsInTime, Machine, Pass, Running}
use Rattle.af_base.specs.Run.{Run, RunEntry, Step, fresh}
use Rattle.af_base.specs.Whole.{IsSound}
use Rattle.af_base.specs.World.{empty_world}

-- A slice of this budget is refused, or its pass may continue: no pass runs, or the budget is out
-- of range, or with it the budgets are within three times the files of the begin.
abbrev pub HasBudget : Pass → ℕ → Type 0
HasBudget Idle b = Unit {0}
HasBudget (Running begun spent) b = IsTrue (nat_eq b 0 || nat_lt MAX_BUDGET b)
    ⊎ (spent + b ≤ 3 * map.len begun.files)

-- The event is no slice whose budgets are spent: such a slice is done or has no reply, since a
-- collector that wasted the slices before may have garbage left.
abbrev pub IsAnswered : Pass → Event → Type 0
IsAnswered p (event.Spawn uid nofile privileged) = Unit {0}
IsAnswered p (event.Proc pid s) = Unit {0}
IsAnswered p event.Begin = Unit {0}
IsAnswered p (event.Slice b) = HasBudget p b
IsAnswered p event.Pass = Unit {0}

-- From every machine whose world is sound each event, but a slice whose budgets are spent, has a
-- reply and leads somewhere.
abbrev pub EventsHaveReplies : Type 0
EventsHaveReplies = (old : Machine) (e : Event) → IsSound old.world → IsAnswered old.pass e
    → (r : Reply) × (new : Machine) × Step old e r new

-- The event, with its reply, leaves nothing to choose. A slice of a pass does: which files it
-- empties, and when the pass is done, is the collector's choice.
abbrev pub LeavesNoChoice : Event → Type 0
LeavesNoChoice (event.Spawn uid nofile privileged) = Unit {0}
LeavesNoChoice (event.Proc p s) = Unit {0}
LeavesNoChoice event.Begin = Unit {0}
LeavesNoChoice (event.Slice b) = ⊥
LeavesNoChoice event.Pass = Unit {0}

-- An event that leaves nothing to choose leads, with its reply, to one machine.
abbrev pub RepliesDetermine : Type 0
RepliesDetermine = (old a b : Machine) (e : Event) (r : Reply) → LeavesNoChoice e → Step old e r a
    → Step old e r b → a ≡ b

-- A log of events that leave nothing to choose leads, with its replies, to one machine.
abbrev pub LogDetermines : Type 0
LogDetermines = (old a b : Machine) (log : List RunEntry) → All (λ e. LeavesNoChoice e.0) log
    → Run old log a → Run old log b → a ≡ b

-- A refused event changes nothing.
abbrev pub RefusedChangesNothing : Type 0
RefusedChangesNothing = (old new : Machine) (e : Event) (error : Errno)
    → Step old e (reply.Refused error) new → new ≡ old

-- A run of two lists joined is a run of the first, and then one of the second.
abbrev pub RunsJoin : Type 0
RunsJoin = (old new : Machine) (first second : List RunEntry)
    → Run old (first ++ second) new ↔ ((mid : Machine) × Run old first mid × Run mid second new)

-- The empty world is sound: whole, within all limits, and settled.
abbrev pub FreshIsSound : Type 0
FreshIsSound = IsSound empty_world

-- Each event leaves a sound world sound, whatever the answer.
abbrev pub EventsKeepSound : Type 0
EventsKeepSound = (old new : Machine) (e : Event) (r : Reply) → IsSound old.world → Step old e r new
    → IsSound new.world

-- Every run from the beginning leads to a sound world.
abbrev pub RunsAreSound : Type 0
RunsAreSound = (m : Machine) (log : List RunEntry) → Run fresh log m → IsSound m.world

-- On every run from the beginning, a pass that still runs has spent at most three units for each
-- file of its begin.
abbrev pub RunsAreInTime : Type 0
RunsAreInTime = (m : Machine) (log : List RunEntry) → Run fresh log m → IsInTime m.pass
