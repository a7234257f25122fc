-- The result of a binary search among rising rows.
use Rattle.std.proofs.Common.{◌≡◌, ℕ, ◌<◌, ◌≤◌, inl, inr, true, false, List, length, refl, sym, ap, ◌∙◌, get_or, arith}
use Rattle.std.specs.Prelude.{Option, Some, None, Ok, Err}
use Rattle.std.specs.FinMap as map
use Rattle.std.specs.List.Sorted.{IsSearchInRange, IsBinarySearchResult, IsNonDecreasingBy, IsPartitionPoint}
use Rattle.std.specs.Ordering.{nat_cmp, ordering_index}
use Rattle.std.proofs.lemmas.Bool.{cases_lt}
use Rattle.std.proofs.lemmas.Bool.Decides.{nat_tests}
use Rattle.std.proofs.lemmas.Cmp.{ranked}
use borrow.Author.Tests.{leb-true, leb-false}
use lib.Dec.{leb}
use Rattle.std.proofs.lemmas.List.Sorted.{IsNonDecreasingBy-from_default}
use Rattle.std.proofs.lemmas.List.{get_or_default}
use Rattle.af_base.specs.World.{Map}
use Rattle.ordered_slab.specs.OrderView.{OrderRowView}
use Rattle.ordered_slab.specs.Rows.{row_at, Rise, HasRow}
use Rattle.ordered_slab.proofs.Rows.{none_row, alone}

-- A number without any key has none.
pub nowhere : (m : Map ℕ) (n : ℕ) → ((k : ℕ) → map.get m n ≡ Some k → ⊥) → map.get m n ≡ None
nowhere m n h = by (map.get m n) refl where
  by : (o : Option ℕ) → map.get m n ≡ o → map.get m n ≡ None
  by None e = e
  by (Some k) e = absurd (h k e)

-- A row that was read is the row at its position.
pub read_here : (rows : List OrderRowView) (at : ℕ) (r : OrderRowView) → at < length rows → r ≡ get_or rows at r → r ≡ row_at rows at
read_here rows at r l is = is ∙ get_or_default rows at r none_row l

module _ (rows : List OrderRowView) (rise : Rise rows) (n : ℕ) where
  -- The number of a row is at most that of a later one.
  pub climb : (i j : ℕ) → i ≤ j → j < length rows → (row_at rows i).ino ≤ (row_at rows j).ino
  climb i j le l = elim (cases_lt i j) [
    | inl m ↦ let o = rise i j m l in omega arith
    | inr m ↦ let e : i ≡ j = omega arith in omega (arith, ap (λ k. (row_at rows k).ino) e)
  ]

  -- The rows are sorted by their numbers.
  pub rising : IsNonDecreasingBy (λ row. row.ino) rows
  rising = IsNonDecreasingBy-from_default (λ (row : OrderRowView). row.ino) rows none_row climb

  -- The rows are sorted by how their numbers compare with n.
  pub compared : IsNonDecreasingBy (λ row. ordering_index (nat_cmp row.ino n)) rows
  compared = IsNonDecreasingBy-from_default (λ (row : OrderRowView). ordering_index (nat_cmp row.ino n)) rows none_row (λ i j le l. let o = climb i j le l in grind (arith, nat_tests))

  -- A row that a search for n finds has this number.
  pub found : (at : ℕ) → IsBinarySearchResult (λ row. nat_cmp row.ino n) rows (Ok at) → (row_at rows at).ino ≡ n
  found at equal = ranked (row_at rows at).ino n _ (sym (equal none_row))

  -- Where a search for n finds no row, it has none.
  pub missed : (at k : ℕ) → IsSearchInRange (Err at) (length rows) → IsBinarySearchResult (λ row. nat_cmp row.ino n) rows (Err at) → HasRow rows n k → ⊥
  missed at k within parted x = let e = ap (λ r. r.ino) x.2 in elim (cases_lt x.0 at) [
    | inl m ↦ let o = ranked (row_at rows x.0).ino n _ (sym ((parted compared).0 x.0 none_row (omega (arith, m, x.1)) m)) in omega (arith, o, e)
    | inr m ↦ let o = ranked (row_at rows x.0).ino n _ (sym ((parted compared).1 x.0 none_row m x.1)) in omega (arith, o, e)
  ]

  -- The row that a search finds is the only one of its number.
  pub only : (at k : ℕ) → at < length rows → (row_at rows at).ino ≡ n → HasRow rows n k → row_at rows at ≡ record { ino = n; key = k }
  only at k l e x = ap (row_at rows) (alone rows rise at x.0 l x.1 (e ∙ sym (ap (λ r. r.ino) x.2))) ∙ x.2

-- The live numbers above n are behind the rows up to n and the dead ones after them.
module _ (rows : List OrderRowView) (rise : Rise rows) (m : Map ℕ) (n from at : ℕ) (low : (i : ℕ) → i < from → (row_at rows i).ino ≤ n)
    (dead : (j q k : ℕ) → from ≤ j → j < at → row_at rows j ≡ record { ino = q; key = k } → map.get m q ≡ Some k → ⊥) where
  -- A number above n has no live row if it is below the one at this position, or no row is there.
  pub passed : (q k : ℕ) → n < q → (at < length rows → q < (row_at rows at).ino) → map.get m q ≡ Some k → HasRow rows q k → ⊥
  passed q k above before live x = elim (cases_lt x.0 from) [
    | inl a ↦ let o = low x.0 a in omega (arith, o, above, ap (λ r. r.ino) x.2)
    | inr a ↦ elim (cases_lt x.0 at) [
      | inl b ↦ dead x.0 q k a b x.2 live
      | inr b ↦ let p = climb rows rise n at x.0 b x.1 in let r = before (omega (arith, b, x.1)) in omega (arith, p, r, ap (λ r. r.ino) x.2)
    ]
  ]

-- The rows from the partition on are above n, those before it are not.
module _ (rows : List OrderRowView) (n from : ℕ) (parted : IsPartitionPoint (λ row. leb row.ino n ≡ true) (λ row. leb row.ino n ≡ false) rows from) (within : from ≤ length rows) where
  -- A row before the partition has a number up to n.
  pub up_to : (i : ℕ) → i < from → (row_at rows i).ino ≤ n
  up_to i l = leb-true (row_at rows i).ino n (parted.0 i none_row (omega arith) l)

  -- A row from the partition on has a number above n.
  pub beyond : (i : ℕ) → from ≤ i → i < length rows → n < (row_at rows i).ino
  beyond i m l = leb-false (row_at rows i).ino n (parted.1 i none_row m l)
