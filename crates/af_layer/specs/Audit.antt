-- The result of an audit.
use Rattle.std.specs.Prelude.{◌≡◌, ◌≢◌, ◌⊎◌, ◌<◌, ◌≤◌, ℕ, List, [], length, slice_index_or, true, false}
use Rattle.af_layer.specs.declared.audit.CloseFault.{CloseFault}
use Rattle.af_layer.specs.declared.audit.CloseFault.TheVariants as fault
use Rattle.af_layer.specs.Calls.{is_seat}
use Rattle.af_layer.specs.Log.{BookView, Entry, Pair, of_seat}
use Rattle.af_layer.specs.Seats.{SeatView}

-- The seat at a position without one.
abbrev pub nobody : SeatView
nobody = record { number = 0; list = [] }

-- The number of the seat at position i of a list of seats.
abbrev pub number_at : List SeatView → ℕ → ℕ
number_at seats i = (slice_index_or seats i nobody).number

-- The events done from the seat at position i, with their replies.
abbrev pub list_at : List SeatView → ℕ → List Pair
list_at seats i = (slice_index_or seats i nobody).list

-- The seat at position i has a number from 1 to n, and none before it has the same.
abbrev pub IsKnown : ℕ → List SeatView → ℕ → Type 0
IsKnown n seats i = (is_seat n (number_at seats i) ≡ true)
    × ((j : ℕ) → j < i → number_at seats j ≢ number_at seats i)

-- Each seat of the list is known.
abbrev pub NoStranger : ℕ → List SeatView → Type 0
NoStranger n seats = (i : ℕ) → i < length seats → IsKnown n seats i

-- The first seat that is not known has the number k.
abbrev pub IsStranger : ℕ → List SeatView → ℕ → Type 0
IsStranger n seats k =
    (i : ℕ) × (i < length seats) × (number_at seats i ≡ k)
    × ((is_seat n k ≡ false) ⊎ ((j : ℕ) × (j < i) × (number_at seats j ≡ k)))
    × ((m : ℕ) → m < i → IsKnown n seats m)

-- A seat has the number k.
abbrev pub Has : List SeatView → ℕ → Type 0
Has seats k = (i : ℕ) × (i < length seats) × (number_at seats i ≡ k)

-- Each number from 1 to n has a seat.
abbrev pub NoneMissing : ℕ → List SeatView → Type 0
NoneMissing n seats = (k : ℕ) → 1 ≤ k → k ≤ n → Has seats k

-- The least number without a seat is k.
abbrev pub IsMissing : ℕ → List SeatView → ℕ → Type 0
IsMissing n seats k = (1 ≤ k) × (k ≤ n) × ((i : ℕ) → i < length seats → number_at seats i ≢ k)
    × ((j : ℕ) → 1 ≤ j → j < k → Has seats j)

-- The seats of the number k hold their part of the log.
abbrev pub IsAudited : List Entry → List SeatView → ℕ → Type 0
IsAudited log seats k =
    (i : ℕ) → i < length seats → number_at seats i ≡ k → list_at seats i ≡ of_seat k log

-- The least number of a seat that holds something else is k.
abbrev pub IsWrong : List Entry → List SeatView → ℕ → Type 0
IsWrong log seats k =
    ((i : ℕ) × (i < length seats) × (number_at seats i ≡ k) × (list_at seats i ≢ of_seat k log))
    × ((j : ℕ) → 1 ≤ j → j < k → IsAudited log seats j)

-- Each number of the book has one seat, which holds its part of the log.
pub record IsWholeBook (b : BookView) (seats : List SeatView) : Type 0 where
  pub known : NoStranger b.seats seats
  pub all_there : NoneMissing b.seats seats
  pub audited : (k : ℕ) → 1 ≤ k → k ≤ b.seats → IsAudited b.log seats k

-- The fault is there, and none that is looked for before it.
abbrev pub HasFault : BookView → List SeatView → CloseFault → Type 0
HasFault b seats (fault.Stranger k) = IsStranger b.seats seats k
HasFault b seats (fault.Missing k) = NoStranger b.seats seats × IsMissing b.seats seats k
HasFault b seats (fault.Audit k) = NoStranger b.seats seats × NoneMissing b.seats seats
    × (1 ≤ k) × (k ≤ b.seats) × IsWrong b.log seats k

-- The seats are there in their order, with their numbers and with empty lists.
pub record AreEmptied (old new : List SeatView) : Type 0 where
  pub count : length new ≡ length old
  pub numbers : (i : ℕ) → i < length old → number_at new i ≡ number_at old i
  pub lists : (i : ℕ) → i < length old → list_at new i ≡ []
