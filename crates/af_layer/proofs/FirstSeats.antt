-- The seats of a layer that is opened.
use Rattle.std.proofs.Common.{◌≡◌, ◌<◌, ◌+◌, ◌++◌, ℕ, List, [], ◌∷◌, inl, inr, length, sym, ap, ◌∙◌, arith, slice_index_or}
use Rattle.std.proofs.lemmas.Bool.{cases_eq}
use Rattle.std.proofs.lemmas.List.{get_or_append_left, get_or_push}
use Rattle.af_layer.specs.Seats.{SeatView}

-- One seat more, with the next number.
pub one_seat_more : (n : ℕ) (seats : List SeatView) → length seats ≡ n → ((i : ℕ) (other : SeatView) → i < n → slice_index_or seats i other ≡ record { number = i + 1; list = [] })
    → (i : ℕ) (other : SeatView) → i < n + 1 → slice_index_or (seats ++ record { number = n + 1; list = [] } ∷ []) i other ≡ record { number = i + 1; list = [] }
one_seat_more n seats len each i other lt = elim (cases_eq i n) [
  | inl e ↦ get_or_push seats (record { number = n + 1; list = [] }) other i (len ∙ sym e) ∙ ap (λ k. record { number = k + 1; list = [] }) (sym e)
  | inr e ↦ get_or_append_left seats (record { number = n + 1; list = [] } ∷ []) other i (omega (arith, lt, e, len)) ∙ each i other (omega (arith, lt, e))
]
