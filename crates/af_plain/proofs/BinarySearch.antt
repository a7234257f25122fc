-- A binary search over items with rising numbers finds the first one that a walk finds.
use Rattle.std.proofs.Common.{◌≡◌, ◌<◌, ℕ, suc, false, inl, inr, List, [], ◌∷◌, length, get_or, map, refl, sym, ap, ◌∙◌, arith, cond, nat_eq}
use Rattle.std.specs.Prelude.{Some, None, Err}
use Rattle.std.specs.List.{find, slice_get}
use Rattle.std.specs.List.Sorted.{IsBinarySearchResult, IsNonDecreasingBy, IsStrictlyIncreasing}
use Rattle.std.specs.Ordering.{nat_cmp, ordering_index}
use Rattle.std.proofs.lemmas.Bool.{cases_lt, eq-eqb, ne_eqb}
use Rattle.std.proofs.lemmas.Bool.Decides.{nat_tests}
use Rattle.std.proofs.lemmas.Cmp.{ranked}
use Rattle.std.proofs.lemmas.List.{get_or-map, length-map}
use Rattle.std.proofs.lemmas.List.Folds.{find_at}
use Rattle.std.proofs.lemmas.List.Kept.{AllPairs-from_increasing}
use Rattle.std.proofs.lemmas.List.Sums.{position_or_len_is}
use Rattle.std.proofs.lemmas.Option.{slice_get_read}

module _ {X : Type 0} (number : X → ℕ) (n : ℕ) where
  -- Each item has a lower number than all later ones.
  below : (xs : List X) → IsStrictlyIncreasing (map number xs) → (i j : ℕ) (d : X) → i < j → j < length xs → number (get_or xs i d) < number (get_or xs j d)
  below xs rising i j d low high =
      let apart = AllPairs-from_increasing (map number xs) rising i j (number d) low (omega (arith, high, length-map xs number)) in
      omega (arith, apart, get_or-map number xs i d (number d) (omega (arith, low, high)), get_or-map number xs j d (number d) high)

  -- The item with the number is the first that has it.
  pub found : (xs : List X) (at : ℕ) (x : X) → IsStrictlyIncreasing (map number xs) → at < length xs → x ≡ get_or xs at x → number x ≡ n → Some x ≡ find (λ y. nat_eq n (number y)) xs
  found xs at x rising inside is same =
      let first = position_or_len_is (λ y. nat_eq n (number y)) xs at x (omega (arith, inside))
      (λ k before. let lower = below xs rising k at x before inside in ne_eqb n (number (get_or xs k x)) (λ e. omega (arith, lower, e, same, ap number is)))
      (λ l. eq-eqb n (number (get_or xs at x)) (sym same ∙ ap number is)) in
      sym (find_at (λ y. nat_eq n (number y)) xs ∙ (λ i. slice_get xs (first i)) ∙ slice_get_read xs (length xs) at x refl inside is)

  -- The answers of the search rise.
  compared : (xs : List X) → IsStrictlyIncreasing (map number xs) → IsNonDecreasingBy (λ y. ordering_index (nat_cmp (number y) n)) xs
  compared xs rising i j d low high = elim (cases_lt i j) [
    | inl before ↦ let o = below xs rising i j d before high in grind (arith, nat_tests)
    | inr after ↦ let same : i ≡ j = omega (arith, low, after) in omega (arith, ap (λ k. ordering_index (nat_cmp (number (get_or xs k d)) n)) same)
  ]

  -- Nothing is found where no item has the number.
  none : (xs : List X) → ((k : ℕ) (d : X) → k < length xs → nat_eq n (number (get_or xs k d)) ≡ false) → find (λ y. nat_eq n (number y)) xs ≡ None
  none [] h = refl
  none (x ∷ xs) h = ap (λ b. cond b (Some x) (find (λ y. nat_eq n (number y)) xs)) (h 0 x (omega arith)) ∙ none xs (λ k d l. h (suc k) d (omega (arith, l)))

  -- Where the search finds nothing, no item has it.
  pub missed : (xs : List X) (at : ℕ) → IsStrictlyIncreasing (map number xs) → IsBinarySearchResult (λ y. nat_cmp (number y) n) xs (Err at) → None ≡ find (λ y. nat_eq n (number y)) xs
  missed xs at rising parted =
      let ends = parted (compared xs rising) in
      sym (none xs (λ k d l. elim (cases_lt k at) [
        | inl before ↦ let o = ranked (number (get_or xs k d)) n _ (sym (ends.0 k d (omega arith) before)) in ne_eqb n (number (get_or xs k d)) (λ e. omega (arith, o, e))
        | inr after ↦ let o = ranked (number (get_or xs k d)) n _ (sym (ends.1 k d after l)) in ne_eqb n (number (get_or xs k d)) (λ e. omega (arith, o, e))
      ]))
