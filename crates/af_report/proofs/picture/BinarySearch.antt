-- The result of a binary search among rising numbers.
use Rattle.std.proofs.Common.{◌≡◌, ◌≤◌, ◌<◌, ℕ, inl, inr, List, length, get_or, sym, arith}
use Rattle.std.specs.Prelude.{Result, Ok, Err, is_ok, nat_eq}
use Rattle.std.specs.List.Sorted.{IsBinarySearchResult, IsStrictlyIncreasing}
use Rattle.std.specs.Ordering.{nat_cmp}
use Rattle.std.proofs.lemmas.Bool.{cases_lt, eq-eqb, ne_eqb}
use Rattle.std.proofs.lemmas.List.{get_or_default}
use Rattle.std.proofs.lemmas.List.Folds.{list_any_at, list_any_none}
use Rattle.std.proofs.lemmas.List.Kept.{AllPairs-from_increasing}
use Rattle.std.proofs.lemmas.List.Sorted.{searched}
use Rattle.af_report.specs.Graph.{is_in}

-- They do not fall.
rising : (xs : List ℕ) → IsStrictlyIncreasing xs → (i j : ℕ) → i ≤ j → j < length xs → get_or xs i 0 ≤ get_or xs j 0
rising xs up i j low high = elim (cases_lt i j) [
  | inl before ↦ let apart = AllPairs-from_increasing xs up i j 0 before high in omega (arith, apart)
  | inr after ↦ let same : i ≡ j = omega (arith, low, after) in rw same (omega arith)
]

-- A number is found just where the list has it.
pub found-is_in : (xs : List ℕ) (x : ℕ) (r : Result ℕ ℕ) → IsStrictlyIncreasing xs → IsBinarySearchResult (λ y. nat_cmp y x) xs r → is_ok r ≡ is_in xs x
found-is_in xs x (Ok i) up s =
    let at = searched xs x (Ok i) s (rising xs up) in
    sym (list_any_at (nat_eq x) xs i 0 at.0 (eq-eqb x (get_or xs i 0) (sym at.1)))
found-is_in xs x (Err i) up s =
    let (most, below, above) = searched xs x (Err i) s (rising xs up) in
    sym (list_any_none (nat_eq x) xs (λ k d low. elim (cases_lt k i) [
      | inl before ↦ ne_eqb x (get_or xs k d) (λ e. omega (arith, e, below k before, get_or_default xs k d 0 low))
      | inr after ↦ ne_eqb x (get_or xs k d) (λ e. omega (arith, e, above k after low, get_or_default xs k d 0 low))
    ]))
