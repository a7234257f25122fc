-- The position of each seat.
use Rattle.std.proofs.Common.{◌≡◌, ◌<◌, ◌≤◌, ◌+◌, ℕ, true, List, length, inl, inr, sym, ap, ◌∙◌, subst, arith, slice_index, slice_set}
use Rattle.std.proofs.lemmas.Bool.{cases_eq}
use Rattle.std.proofs.lemmas.List.{get_or-set_other, get_or-set_same, length-set}
use Rattle.af_base.specs.declared.limits.TheConstants.{MAX_SEATS}
use Rattle.af_layer.specs.Calls.{is_seat}
use Rattle.af_layer.specs.Seats.{SeatView}
use Rattle.af_layer.specs.Audit.{NoStranger, NoneMissing, number_at}
use Rattle.af_layer.specs.Walk.{ArePositions, ArePositionsOf}

-- The number of a seat that is known is one of its layer's.
pub known_number : (n k : ℕ) → is_seat n k ≡ true → k ≤ n
known_number n k e = grind arith

-- At first all positions are the first.
pub positions-first : (seats : List SeatView) (positions : List ℕ) → 0 < length seats → length positions ≡ MAX_SEATS + 1 → ((k : ℕ) → k < length positions → slice_index positions k ≡ 0) → ArePositionsOf 0 seats positions
positions-first seats positions some all zeros = record {
  count = all;
  within = λ k lt. subst (λ x. x < length seats) (sym (zeros k lt)) some;
  right = λ m none. absurd (omega (arith, none));
}

-- One seat more, whose number no seat before it has.
pub positions-next : (n i k : ℕ) (seats : List SeatView) (positions : List ℕ) → NoStranger n seats → i < length seats → k ≤ MAX_SEATS → number_at seats i ≡ k → ArePositionsOf i seats positions → ArePositionsOf (i + 1) seats (slice_set positions k i)
positions-next n i k seats positions known here few is before = let fits : k < length positions = omega (arith, few, before.count) in record {
  count = length-set positions k i ∙ before.count;
  within = λ j lt. elim (cases_eq j k) [
    | inl e ↦ subst (λ x. x < length seats) (sym (ap (slice_index (slice_set positions k i)) e ∙ get_or-set_same positions k i 0 fits)) here
    | inr e ↦ subst (λ x. x < length seats) (sym (get_or-set_other positions k j i 0 e)) (before.within j (omega (arith, lt, length-set positions k i)))
  ];
  right = λ m lt. elim (cases_eq m i) [
    | inl e ↦ ap (λ x. slice_index (slice_set positions k i) (number_at seats x)) e ∙ ap (slice_index (slice_set positions k i)) is ∙ get_or-set_same positions k i 0 fits ∙ sym e
    | inr e ↦ get_or-set_other positions k (number_at seats m) i 0 (λ same. (known i here).1 m (omega (arith, lt, e)) (same ∙ sym is)) ∙ before.right m (omega (arith, lt, e))
  ];
}

-- The positions of all seats, where none is missing.
pub positions-all : (n : ℕ) (seats : List SeatView) (positions : List ℕ) → NoneMissing n seats → ArePositionsOf (length seats) seats positions → ArePositions n seats positions
positions-all n seats positions all_there of = record {
  count = of.count;
  within = of.within;
  right = λ k low high. let at = all_there k low high in ap (number_at seats) (ap (slice_index positions) (sym at.2) ∙ of.right at.0 at.1) ∙ at.2;
}
