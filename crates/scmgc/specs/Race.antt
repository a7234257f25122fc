-- A race on one layer, and what it comes to. This project's profile.
pub mod Table
pub mod Scripts
pub mod Source
pub mod Faults
pub mod Parts
use Rattle.std.specs.Prelude.{◌≡◌, ◌≤◌, ◌+◌, ◌*◌, ◌%◌, ℕ, zero, suc, List, [], ◌∷◌, ◌++◌, map, filter_map, nat_le, false, codes, Option, Some, None}
use Rattle.std.specs.List.{count_by, flat_map}
use Rattle.std.specs.Fmt.{decimal}
use Rattle.std.specs.FinMap as finmap
use Rattle.af_base.specs.declared.events.Event.{Event}
use Rattle.af_base.specs.declared.events.Event.TheVariants as event
use Rattle.af_base.specs.declared.events.Reply.{Reply}
use Rattle.af_base.specs.declared.events.Reply.TheVariants as reply
use Rattle.af_base.specs.declared.events.Step.TheVariants as step
use Rattle.af_base.specs.declared.limits.TheConstants.{MAX_BUDGET}
use Rattle.af_layer.specs.Drive.{Collects, Script, Turned, WentOn, Work, events_of}
use Rattle.af_layer.specs.Log.{BookView, Entry, IsLegal, Pair, of_seat}
use Rattle.af_layer.specs.Seats.{SeatView}
use Rattle.scmgc.specs.Race.Scripts.{script_of}

-- The process of a worker: two users in turn, with room for 32 descriptors and no privilege.
abbrev pub spawn_of : ℕ → Event
spawn_of worker = event.Spawn (1000 + worker % 2) 32 false

-- The processes of the first n workers, each with the worker's number as its pid.
unfoldable pub spawned : ℕ → List Pair
spawned zero = []
spawned (suc n) = spawned n ++ (spawn_of (suc n), reply.Pid (suc n)) ∷ []

-- The scripts of the first n of all workers.
unfoldable pub scripts_of : ℕ → ℕ → ℕ → ℕ → List (List Event)
scripts_of zero workers steps seed = []
scripts_of (suc n) workers steps seed = scripts_of n workers steps seed
    ++ script_of (suc n) workers steps seed ∷ []

-- The work of a race: the workers' scripts, and as many turns of the collector as a script has
-- events.
abbrev pub works_of_race : ℕ → ℕ → ℕ → ℕ → List Work
works_of_race workers steps seed budget = map Script (scripts_of workers workers steps seed)
    ++ Collects steps budget ∷ []

-- The child that an answered fork made, if the pair is one (fork(2)).
abbrev pub child_of : Pair → Option ℕ
child_of (event.Proc p step.Fork, reply.Pid child) = Some child
child_of other = None

-- The exit of a process (_exit(2)).
abbrev pub exit_of : ℕ → Event
exit_of pid = event.Proc pid step.Exit

-- The exits of all children that were forked by these calls.
abbrev pub exits_of : List Pair → List Event
exits_of pairs = map exit_of (filter_map child_of pairs)

-- The exits of all children that were forked from these seats.
abbrev pub all_exits_of : List SeatView → List Event
all_exits_of seats = flat_map (λ s. exits_of s.list) seats

-- The exits of all children that were forked from the first n seats, by a log.
unfoldable pub exits_in : ℕ → List Entry → List Event
exits_in zero log = []
exits_in (suc n) log = exits_in n log ++ exits_of (of_seat (suc n) log)

-- A list was extended, and ended with a whole pass that was done.
abbrev pub EndsInPass : List Pair → List Pair → Type 0
EndsInPass old new = (between : List Pair) × (pass : ℕ) × (reclaimed : ℕ)
    × (new ≡ old ++ between ++ (event.Pass, reply.Done pass reclaimed) ∷ [])

-- A list was extended, and ended with a slice of the largest budget that left no pass to continue.
abbrev pub EndsInSlice : List Pair → List Pair → Type 0
EndsInSlice old new = (between : List Pair) × (answer : Reply)
    × (new ≡ old ++ between ++ (event.Slice MAX_BUDGET, answer) ∷ []) × ¬ (answer ≡ reply.Working)

-- A list was extended by these exits, and then ended with a whole pass that was done.
abbrev pub Finishes : List Event → List Pair → List Pair → Type 0
Finishes exits old new = (exited : List Pair) × WentOn old exits exited × EndsInPass exited new

-- The main thread started the processes of this many workers. After all work it let each child exit
-- that a worker had forked, and made a last pass.
abbrev pub ChildrenExit : ℕ → List Entry → Type 0
ChildrenExit workers log =
    Finishes (exits_in (workers + 1) log) (spawned workers) (of_seat (workers + 2) log)

-- The log of a book is a run of the machine, in which each worker did its script.
pub record DidScripts (workers steps seed : ℕ) (b : BookView) : Type 0 where
  pub legal : IsLegal b.seats b.machine b.log
  pub scripts : (k : ℕ) → 1 ≤ k → k ≤ workers
      → events_of (of_seat k b.log) ≡ script_of k workers steps seed

-- The log of a race on one layer that ended well: each worker did its script, and the collector its
-- turns, one after the other; the main thread started the processes first, and ended with a whole
-- pass that was done.
pub record Raced (workers steps seed budget : ℕ) (b : BookView) : Type 0 where
  pub did : DidScripts workers steps seed b
  pub turns : Turned budget [] steps (of_seat (workers + 1) b.log)
  pub main_thread : EndsInPass (spawned workers) (of_seat (workers + 2) b.log)

-- How many entries are of the seats from 1 to this number.
abbrev pub worker_steps : ℕ → List Entry → ℕ
worker_steps workers log = count_by (λ e. nat_le e.seat workers) log

-- The lines that tell a race: how many steps the workers did, and how many files are live.
abbrev pub race_lines : ℕ → ℕ → List ℕ
race_lines steps left = codes "steps "
    ++ (decimal steps ++ (codes "\naudit ok\nleft " ++ (decimal left ++ 10 ∷ [])))

-- The lines that report a race of this many workers, by the closed book: how many entries the
-- workers have, and how many files are live.
abbrev pub outcome_text : ℕ → BookView → List ℕ
outcome_text workers b = race_lines (worker_steps workers b.log) (finmap.len b.machine.world.files)

-- The text tells the book of a race that ended well, in whose log each worker has all its steps.
pub record TellsRace (Ended : BookView → Type 0) (workers steps : ℕ) (text : List ℕ) : Type 0 where
  pub book : BookView
  pub raced : Ended book
  pub all_steps : worker_steps workers book.log ≡ workers * steps
  pub lines : text ≡ outcome_text workers book

-- The text tells a race on one layer that ended well.
abbrev pub RaceText : ℕ → ℕ → ℕ → ℕ → List ℕ → Type 0
RaceText workers steps seed budget = TellsRace (Raced workers steps seed budget) workers steps
