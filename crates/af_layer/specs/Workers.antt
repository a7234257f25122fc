-- The work of a worker, and its result.
use Rattle.std.specs.Prelude.{◌≡◌, ◌<◌, ◌≤◌, ◌++◌, ◌∷◌, ℕ, List, [], map, length, slice_index_or, Option, Some, None, IfSome}
use Rattle.af_base.specs.declared.events.Event.{Event}
use Rattle.af_layer.specs.declared.book.CallError.{CallError}
use Rattle.af_layer.specs.declared.workers.Work.{Work as OwnedWork}
use Rattle.af_layer.specs.declared.workers.Work.TheVariants as owned
use Rattle.af_layer.specs.Drive.{Collects, Made, Script, Short, WentOn, Work}
use Rattle.af_layer.specs.Log.{Pair}
use Rattle.af_layer.specs.Seats.{SeatView}

-- The work that a worker owns.
abbrev pub work_of : OwnedWork → Work
work_of (owned.Script v) = Script v.items
work_of (owned.Collect t) = Collects t.turns t.budget

-- A seat, what is to be done from it, and what stopped it.
pub record WorkerView : Type 0 where
  pub seat : SeatView
  pub work : Option Work
  pub fault : Option CallError

-- A list as a worker leaves it: all was done, or at a fault a beginning.
abbrev pub Ends : Option Work → List Pair → Option CallError → List Pair → Type 0
Ends work old None new = Made work old new
Ends work old (Some e) new = Short work old new

-- A worker after its work.
pub record Worked (old new : WorkerView) : Type 0 where
  pub number : new.seat.number ≡ old.seat.number
  pub list : Ends old.work old.seat.list new.fault new.seat.list

-- Each worker is as after its work.
abbrev pub AllWorked : List WorkerView → List WorkerView → Type 0
AllWorked old new = (i : ℕ) (other : WorkerView) → i < length old
    → Worked (slice_index_or old i other) (slice_index_or new i other)

-- A worker that did not begin.
abbrev pub worker_of : SeatView → Option Work → WorkerView
worker_of s work = record { seat = s; work = work; fault = None }

-- The i-th work for the i-th seat, and none for the others.
abbrev pub workers_of : List SeatView → List Work → List WorkerView
workers_of [] works = []
workers_of (s ∷ seats) [] = worker_of s None ∷ workers_of seats []
workers_of (s ∷ seats) (work ∷ works) = worker_of s (Some work) ∷ workers_of seats works

-- The seats of workers.
abbrev pub seats_of : List WorkerView → List SeatView
seats_of workers = map (λ w. w.seat) workers

-- The fault of the least seat among the first n workers, if one stopped.
abbrev pub LeastBelow : List WorkerView → ℕ → Option (ℕ × CallError) → Type 0
LeastBelow workers n None =
    (i : ℕ) (other : WorkerView) → i < n → (slice_index_or workers i other).fault ≡ None
LeastBelow workers n (Some f) =
    ((i : ℕ) × (i < n) × ((other : WorkerView)
    → ((slice_index_or workers i other).seat.number ≡ f.0)
    × ((slice_index_or workers i other).fault ≡ Some f.1)))
    × ((i : ℕ) (other : WorkerView) → i < n → IfSome (slice_index_or workers i other).fault
    (λ e. f.0 ≤ (slice_index_or workers i other).seat.number))

-- A part of a script was done, and the rest is left.
pub record ScriptProgress (old : List Pair) (script rest : List Event)
    (new : List Pair) : Type 0 where
  pub done : List Event
  pub split : script ≡ done ++ rest
  pub went : WentOn old done new
