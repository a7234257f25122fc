-- The count of a number in a rising list is the distance between the end of the lower ones and the
-- begin of the higher ones.
use Rattle.std.proofs.Common.{◌≡◌, ◌≤◌, ℕ, zero, suc, ◌+◌, Bool, true, false, List, [], ◌∷◌, length, refl, ap, arith, cond, nat_eq, leb}
use Rattle.std.specs.List.{count_by}
use Rattle.std.specs.List.Sorted.{IsPartitionPoint}
use Rattle.std.proofs.lemmas.Bool.Decides.{nat_tests}
use Rattle.std.proofs.lemmas.List.Sums.{sum_by-cons}
use Rattle.af_base.specs.Counts.{count_in}
use lib.Dec.{ltb}

-- The items that pass a test are those before the first that fails it.
passing : (p : ℕ → Bool) (xs : List ℕ) (i : ℕ) → i ≤ length xs → IsPartitionPoint (λ y. p y ≡ true) (λ y. p y ≡ false) xs i → count_by p xs ≡ i
passing p [] i l parted = omega (arith, l)
passing p (x ∷ xs) zero l parted =
    let rest = passing p xs 0 (omega arith) (λ k d from to. absurd (omega (arith, to)), λ k d from to. parted.1 (suc k) d (omega arith) (omega (arith, to))) in
    let here : cond {A = ℕ} (p x) 1 0 ≡ 0 = ap {B = ℕ} (λ b. cond b 1 0) (parted.1 0 x (omega arith) (omega arith)) in
    omega (arith, here, rest, sum_by-cons (λ y. cond (p y) 1 0) x xs)
passing p (x ∷ xs) (suc i) l parted =
    let rest = passing p xs i (omega (arith, l)) (λ k d from to. parted.0 (suc k) d (omega arith) (omega (arith, to)), λ k d from to. parted.1 (suc k) d (omega (arith, from)) (omega (arith, to))) in
    let here : cond {A = ℕ} (p x) 1 0 ≡ 1 = ap {B = ℕ} (λ b. cond b 1 0) (parted.0 0 x (omega arith) (omega arith)) in
    omega (arith, here, rest, sum_by-cons (λ y. cond (p y) 1 0) x xs)

-- A number that is not above another is below it or equal.
below_or_equal : (n y : ℕ) → cond (ltb y n) 1 0 + cond (nat_eq n y) 1 0 ≡ cond (leb y n) 1 0
below_or_equal n y = grind (arith, nat_tests)

-- So it is in a list.
split : (n : ℕ) (xs : List ℕ) → count_by (λ y. ltb y n) xs + count_in n xs ≡ count_by (λ y. leb y n) xs
split n [] = refl
split n (x ∷ xs) = omega (arith, below_or_equal n x, split n xs, sum_by-cons (λ y. cond (ltb y n) 1 0) x xs, sum_by-cons (λ y. cond (nat_eq n y) 1 0) x xs, sum_by-cons (λ y. cond (leb y n) 1 0) x xs)

-- The items between the two ends are the number.
pub between : (n : ℕ) (xs : List ℕ) (from to : ℕ) → from ≤ length xs → to ≤ length xs
    → IsPartitionPoint (λ y. ltb y n ≡ true) (λ y. ltb y n ≡ false) xs from → IsPartitionPoint (λ y. leb y n ≡ true) (λ y. leb y n ≡ false) xs to → from + count_in n xs ≡ to
between n xs from to low high below up_to = omega (arith, passing (λ y. ltb y n) xs from low below, passing (λ y. leb y n) xs to high up_to, split n xs)
