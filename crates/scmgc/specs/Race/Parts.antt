-- A race at its checkpoints, and what is done from one to the next.
use Rattle.std.specs.Prelude.{◌≡◌, ◌<◌, ◌≤◌, ◌+◌, ◌-◌, ◌/◌, ◌++◌, ℕ, List, [], drop, length, max, min, slice_index_or, take}
use Rattle.af_base.specs.declared.events.Event.{Event}
use Rattle.af_base.specs.Pass.{Machine}
use Rattle.af_base.specs.Run.{fresh}
use Rattle.af_layer.specs.Audit.{list_at, number_at}
use Rattle.af_layer.specs.Drive.{Turned, WentOn, events_of}
use Rattle.af_layer.specs.Log.{BookView, Entry, IsLegal, IsLegalFrom, Pair, of_seat}
use Rattle.af_layer.specs.Seats.{SeatView}
use Rattle.scmgc.specs.Race.Scripts.{script_of}
use Rattle.scmgc.specs.Race.{DidScripts, EndsInPass, EndsInSlice, TellsRace, exits_in, spawned}

-- There are n seats in order, numbered from 1, and the list of each is as P says of its place.
pub record SeatsHave (n : ℕ) (P : ℕ → List Pair → Type 0) (seats : List SeatView) : Type 0 where
  pub count : length seats ≡ n
  pub numbers : (i : ℕ) → i < n → number_at seats i ≡ i + 1
  pub lists : (i : ℕ) → i < n → P i (list_at seats i)

-- There are n seats in order, numbered from 1, and their lists are empty.
abbrev pub AreFresh : ℕ → List SeatView → Type 0
AreFresh n = SeatsHave n (λ i list. list ≡ [])

-- The part of each of the first n seats in a log is as P says of its place.
abbrev pub LogHas : ℕ → (ℕ → List Pair → Type 0) → List Entry → Type 0
LogHas n P log = (i : ℕ) → i < n → P i (of_seat (i + 1) log)

-- A part of a race on a book: its log is legal from a machine of which `begins` holds, and each
-- seat has of it what P says.
pub record IsPart (begins : ℕ → Machine → Type 0) (n : ℕ) (P : ℕ → List Pair → Type 0)
    (b : BookView) : Type 0 where
  pub origin : begins b.seats b.start
  pub legal : IsLegalFrom b.start b.seats b.machine b.log
  pub lists : LogHas n P b.log

-- A book whose log was taken.
abbrev pub taken : BookView → BookView
taken b = record b { start = b.machine; log = []; room = 0 }

-- At the start the last seat has started the processes.
abbrev pub IsOfStart : ℕ → ℕ → List Pair → Type 0
IsOfStart workers i list = (i ≤ workers → list ≡ []) × (i ≡ workers + 1 → list ≡ spawned workers)

-- From one checkpoint to the next each worker has done these steps, and the collector behind them
-- this many turns.
abbrev pub IsOfPart : List (List Event) → ℕ → ℕ → ℕ → List Pair → Type 0
IsOfPart steps turns budget i list = (i < length steps → events_of list ≡ slice_index_or steps i [])
    × (i ≡ length steps → Turned budget [] turns list)

-- At the end the last seat has made a whole pass, which was done.
abbrev pub IsOfEnd : ℕ → ℕ → List Pair → Type 0
IsOfEnd workers i list = (i ≤ workers → list ≡ []) × (i ≡ workers + 1 → EndsInPass [] list)

-- The rest of each worker's script after this many steps.
pub record AreLeft (workers steps seed done : ℕ) (sources : List (List Event)) : Type 0 where
  pub count : length sources ≡ workers
  pub each : (i : ℕ) → i < workers
      → slice_index_or sources i [] ≡ drop done (script_of (i + 1) workers steps seed)

-- The next events of each source, this many, are made, and the others are left.
pub record AreNext (count : ℕ) (old parts new : List (List Event)) : Type 0 where
  pub made_count : length parts ≡ length old
  pub left_count : length new ≡ length old
  pub made : (i : ℕ) → i < length old
      → slice_index_or parts i [] ≡ take count (slice_index_or old i [])
  pub left : (i : ℕ) → i < length old
      → slice_index_or new i [] ≡ drop count (slice_index_or old i [])

-- A list was extended by these exits, and then ended with a slice that left no pass to continue.
abbrev pub EndsPart : List Event → List Pair → List Pair → Type 0
EndsPart exits old new = (exited : List Pair) × WentOn old exits exited × EndsInSlice exited new

-- The children that were forked in a part of a race exited, and then the pass that ran was ended.
abbrev pub ChildrenExitInPart : ℕ → List Entry → Type 0
ChildrenExitInPart workers log =
    EndsPart (exits_in (workers + 1) log) [] (of_seat (workers + 2) log)

-- How many events each worker does up to the next checkpoint, where this many are left: its share,
-- and at least one.
abbrev pub share_of : ℕ → ℕ → ℕ → ℕ
share_of workers checkpoint left = min (max (checkpoint / workers) 1) left

-- The logs that were taken until each worker had done this many of its events, put together: that
-- of the start, and then the parts. In each part every worker did its share, the collector began
-- anew and made as many turns, and then the children exited.
pub data AreParts (workers steps budget checkpoint : ℕ) : ℕ → List Entry → Type 0 where
  Start : (log : List Entry) → LogHas (workers + 2) (IsOfStart workers) log
      → AreParts workers steps budget checkpoint 0 log
  NextPart : (done n : ℕ) → (before part : List Entry)
      → AreParts workers steps budget checkpoint done before
      → n ≡ share_of workers checkpoint (steps - done)
      → ((k : ℕ) → 1 ≤ k → k ≤ workers → length (of_seat k part) ≡ n)
      → Turned budget [] n (of_seat (workers + 1) part) → ChildrenExitInPart workers part
      → AreParts workers steps budget checkpoint (done + n) (before ++ part)

-- The log of a race with checkpoints that ended well, which is all logs put together: each worker
-- did its script, in parts, and behind these is the log of the end.
pub record RacedInParts (workers steps seed budget checkpoint : ℕ) (b : BookView) : Type 0 where
  pub did : DidScripts workers steps seed b
  pub parts : (before last : List Entry) × (b.log ≡ before ++ last)
      × AreParts workers steps budget checkpoint steps before
      × LogHas (workers + 2) (IsOfEnd workers) last

-- The text tells a race with checkpoints that ended well.
abbrev pub LongRaceText : ℕ → ℕ → ℕ → ℕ → ℕ → List ℕ → Type 0
LongRaceText workers steps seed budget checkpoint =
    TellsRace (RacedInParts workers steps seed budget checkpoint) workers steps

-- A book with this log since the beginning.
abbrev pub with_log : BookView → List Entry → BookView
with_log b log = record b { start = fresh; log = log }

-- A race after this many steps of each worker: in the logs that were taken, put together, each
-- worker has done that part of its script.
pub record Continues (workers steps seed budget checkpoint done : ℕ) (b : BookView) : Type 0 where
  pub here : b.start ≡ b.machine
  pub log : List Entry
  pub legal : IsLegal b.seats b.machine log
  pub scripts : (k : ℕ) → 1 ≤ k → k ≤ workers
      → events_of (of_seat k log) ≡ take done (script_of k workers steps seed)
  pub parts : AreParts workers steps budget checkpoint done log
