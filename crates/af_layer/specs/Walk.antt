-- One walk over the log, with a cursor for each seat.
use Rattle.std.specs.Prelude.{◌≡◌, ◌≢◌, ◌<◌, ◌≤◌, ◌+◌, ◌↔◌, ℕ, List, Option, Some, None, drop, length, slice_index, slice_index_or}
use Rattle.af_base.specs.declared.limits.TheConstants.{MAX_SEATS}
use Rattle.af_layer.specs.Log.{Entry, Pair, of_seat}
use Rattle.af_layer.specs.Seats.{SeatView}
use Rattle.af_layer.specs.Audit.{list_at, number_at}

-- The positions of the first i seats are kept under their numbers, and each is in the list.
pub record ArePositionsOf (i : ℕ) (seats : List SeatView) (positions : List ℕ) : Type 0 where
  pub count : length positions ≡ MAX_SEATS + 1
  pub within : (k : ℕ) → k < length positions → slice_index positions k < length seats
  pub right : (m : ℕ) → m < i → slice_index positions (number_at seats m) ≡ m

-- Each number from 1 to n has the position of its seat.
pub record ArePositions (n : ℕ) (seats : List SeatView) (positions : List ℕ) : Type 0 where
  pub count : length positions ≡ MAX_SEATS + 1
  pub within : (k : ℕ) → k < length positions → slice_index positions k < length seats
  pub right : (k : ℕ) → 1 ≤ k → k ≤ n → number_at seats (slice_index positions k) ≡ k

-- After i entries the rest of a list is what the rest of the log has of its seat, exactly where the
-- whole is the whole.
abbrev pub Leaves : List Entry → ℕ → List Pair → ℕ → List Pair → Type 0
Leaves log k list i rest = (list ≡ of_seat k log) ↔ (rest ≡ of_seat k (drop i log))

-- After i entries there is no cursor, and the list differs; or this much of the list was in the
-- log.
abbrev pub Tracks : List Entry → List Pair → ℕ → ℕ → Option ℕ → Type 0
Tracks log list k i None = list ≢ of_seat k log
Tracks log list k i (Some cursor) = (cursor ≤ length list) × Leaves log k list i (drop cursor list)

-- The cursor of each number with a position tracks the list of the seat there.
abbrev pub AllTrack : List Entry → List SeatView → List ℕ → ℕ → List (Option ℕ) → Type 0
AllTrack log seats positions i cursors = (k : ℕ) → k < length positions
    → Tracks log (list_at seats (slice_index positions k)) k i (slice_index_or cursors k None)
