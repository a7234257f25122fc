-- The effect of a drive on its seats.
use Rattle.std.specs.Prelude.{◌≡◌, ◌<◌, ◌⊎◌, ◌+◌, ◌-◌, ◌++◌, ◌∷◌, ℕ, List, [], map, length, slice_get, Option, Some, None, Vec}
use Rattle.std.proofs.Common.{Global}
use Rattle.af_base.specs.declared.events.Event.{Event}
use Rattle.af_base.specs.declared.events.Event.TheVariants as event
use Rattle.af_base.specs.declared.events.Reply.{Reply}
use Rattle.af_base.specs.declared.events.Reply.TheVariants as reply
use Rattle.af_layer.specs.declared.workers.Turns.{Turns}
use Rattle.af_layer.specs.declared.driving.DriveFault.{DriveFault}
use Rattle.af_layer.specs.declared.driving.DriveFault.TheVariants as fault
use Rattle.af_layer.specs.Audit.{list_at, number_at}
use Rattle.af_layer.specs.Log.{Pair}
use Rattle.af_layer.specs.Seats.{SeatView}

-- The events of some pairs.
abbrev pub events_of : List Pair → List Event
events_of pairs = map (λ p. p.0) pairs

-- A list was extended by pairs of just these events, each with some reply.
abbrev pub WentOn : List Pair → List Event → List Pair → Type 0
WentOn old events new = (more : List Pair) × (new ≡ old ++ more) × (events_of more ≡ events)

-- A list was extended by a beginning of these events, and not by all.
abbrev pub FellShort : List Pair → List Event → List Pair → Type 0
FellShort old events new = (done : List Event) × (next : Event) × (rest : List Event)
    × (events ≡ done ++ next ∷ rest) × WentOn old done new

-- The collector's event after this reply: it continues a pass that it began.
abbrev pub turn_after : ℕ → Option Pair → Event
turn_after budget (Some (e, reply.Started pass)) = event.Slice budget
turn_after budget (Some (e, reply.Working)) = event.Slice budget
turn_after budget other = event.Begin

-- The collector's next event, by the last reply in its list.
abbrev pub next_turn : ℕ → List Pair → Event
next_turn budget list = turn_after budget (slice_get list (length list - 1))

-- This many turns were made, each with the event that the list asked for.
pub data Turned (budget : ℕ) (old : List Pair) : ℕ → List Pair → Type 0 where
  NoTurn : Turned budget old 0 old
  OneMore : (n : ℕ) → (list : List Pair) → (r : Reply) → Turned budget old n list
      → Turned budget old (n + 1) (list ++ (next_turn budget list, r) ∷ [])

-- The work of a seat: a script, or a number of turns of a collector.
pub data Work : Type 0 where
  Script : (events : List Event) → Work
  Collects : (turns : ℕ) → (budget : ℕ) → Work

-- A list as it is when all was done; where nothing was to be done it is as it was.
abbrev pub Made : Option Work → List Pair → List Pair → Type 0
Made None old new = new ≡ old
Made (Some (Script events)) old new = WentOn old events new
Made (Some (Collects turns budget)) old new = Turned budget old turns new

-- A list as it is when a beginning was done, and not all.
abbrev pub Short : Option Work → List Pair → List Pair → Type 0
Short None old new = ⊥
Short (Some (Script events)) old new = FellShort old events new
Short (Some (Collects turns budget)) old new =
    (done : ℕ) × (done < turns) × Turned budget old done new

-- All was done, or a beginning.
abbrev pub Part : Option Work → List Pair → List Pair → Type 0
Part work old new = Made work old new ⊎ Short work old new

-- The collector's turns, if there is a collector.
abbrev pub turns_of : Option Turns → List Work
turns_of None = []
turns_of (Some t) = Collects t.turns t.budget ∷ []

-- All work of a drive: its scripts, and then the collector's turns.
abbrev pub works_of : List (Vec Event Global) → Option Turns → List Work
works_of scripts collector = map (λ v. Script v.items) scripts ++ turns_of collector

-- All seats are there in their order, with their numbers; R holds between the list of the i-th and
-- the i-th work, and the other seats have none.
pub record Driven (R : Option Work → List Pair → List Pair → Type 0) (seats : List SeatView)
    (works : List Work) (after : List SeatView) : Type 0 where
  pub count : length after ≡ length seats
  pub numbers : (i : ℕ) → i < length seats → number_at after i ≡ number_at seats i
  pub lists : (i : ℕ) → i < length seats → R (slice_get works i) (list_at seats i) (list_at after i)

-- The list of a seat of number k falls short, and all was done from each seat with a lower number.
pub record IsFirstShort (k : ℕ) (seats : List SeatView) (works : List Work)
    (after : List SeatView) : Type 0 where
  pub short : (i : ℕ) × (i < length seats) × (number_at seats i ≡ k)
      × Short (slice_get works i) (list_at seats i) (list_at after i)
  pub below : (i : ℕ) → i < length seats → number_at seats i < k
      → Made (slice_get works i) (list_at seats i) (list_at after i)

-- The meaning of a fault: the named seat is the least whose list falls short; with the other faults
-- nothing was started.
abbrev pub AtFault : List SeatView → List Work → DriveFault → List SeatView → Type 0
AtFault seats works (fault.Call k e) after = IsFirstShort k seats works after
AtFault seats works other after = after ≡ seats
