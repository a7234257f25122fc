-- The plain list of a table's open numbers, made item by item.
use Rattle.std.proofs.Common.{◌≡◌, ◌<◌, ◌≤◌, ℕ, ◌+◌, Bool, true, false, cond, List, [], ◌∷◌, ◌++◌, length, drop, map, refl, sym, ap, ◌∙◌, subst, arith, append-nil}
use Rattle.std.specs.Ordering.{nat_cmp}
use Rattle.std.specs.declared.cmp.Ordering.TheVariants.{Less}
use Rattle.std.specs.Cmp.{nat_cmp_is}
use Rattle.std.specs.List.{AllByRecursion}
use Rattle.std.specs.List.Sorted.{IsStrictlyIncreasing, IsStrictlySortedBy}
use Rattle.std.specs.Map.{keys_of}
use Rattle.std.specs.FinMap as finmap
use Rattle.std.proofs.lemmas.List.{drop_all, length-map}
use Rattle.std.proofs.lemmas.Map.Keys.{IsStrictlyIncreasing-from_sorted}
use Rattle.std.proofs.lemmas.Simd.{map-map}
use Rattle.af_base.specs.Listing.{keyed}
use Rattle.af_table.specs.Bits.{is_taken}
use Rattle.af_table.specs.Slots.{table_from, table_of}

-- An item with its key.
abbrev pub entry : {A X : Type 0} → (A → ℕ) → (A → X) → A → ℕ × X
entry key value x = (key x, value x)

module _ (words : List ℕ) where
  -- The numbers from k on whose bit is set, each with its file.
  abbrev pub taken_from : ℕ → List ℕ → List (ℕ × ℕ)
  taken_from k [] = []
  taken_from k (f ∷ fs) = cond (is_taken words k) ((k, f) ∷ taken_from (k + 1) fs) (taken_from (k + 1) fs)

  -- They make the table.
  table_taken : (fs : List ℕ) (k : ℕ) → finmap.from_entries {R = nat_cmp} (taken_from k fs) ≡ table_from words k fs
  unfolding table_from
  table_taken [] k = refl
  table_taken (f ∷ fs) k = by (is_taken words k) (table_taken fs (k + 1)) where
    by : (b : Bool) → finmap.from_entries {R = nat_cmp} (taken_from (k + 1) fs) ≡ table_from words (k + 1) fs
        → finmap.from_entries {R = nat_cmp} (cond b ((k, f) ∷ taken_from (k + 1) fs) (taken_from (k + 1) fs)) ≡ cond b (finmap.insert (table_from words (k + 1) fs) k f) (table_from words (k + 1) fs)
    by true rest = ap (λ m. finmap.insert m k f) rest
    by false rest = rest

  -- All these numbers are above each number below k.
  taken_above : (fs : List ℕ) (k j : ℕ) → j < k → AllByRecursion (λ y. nat_cmp j y ≡ Less) (keys_of (taken_from k fs))
  taken_above [] k j low = tt
  taken_above (f ∷ fs) k j low = by (is_taken words k) (taken_above fs (k + 1) j (omega arith)) where
    by : (b : Bool) → AllByRecursion (λ y. nat_cmp j y ≡ Less) (keys_of (taken_from (k + 1) fs)) → AllByRecursion (λ y. nat_cmp j y ≡ Less) (keys_of (cond b ((k, f) ∷ taken_from (k + 1) fs) (taken_from (k + 1) fs)))
    by true rest = (sym (nat_cmp_is j k Less low), rest)
    by false rest = rest

  -- They rise.
  taken_sorted : (fs : List ℕ) (k : ℕ) → IsStrictlySortedBy nat_cmp (keys_of (taken_from k fs))
  unfolding IsStrictlySortedBy
  taken_sorted [] k = tt
  taken_sorted (f ∷ fs) k = by (is_taken words k) (taken_sorted fs (k + 1)) where
    by : (b : Bool) → IsStrictlySortedBy nat_cmp (keys_of (taken_from (k + 1) fs)) → IsStrictlySortedBy nat_cmp (keys_of (cond b ((k, f) ∷ taken_from (k + 1) fs) (taken_from (k + 1) fs)))
    by true rest = (taken_above fs (k + 1) k (omega arith), rest)
    by false rest = rest

  -- There are at most as many of them as slots.
  taken-le : (fs : List ℕ) (k : ℕ) → length (taken_from k fs) ≤ length fs
  taken-le [] k = omega arith
  taken-le (f ∷ fs) k = by (is_taken words k) (taken-le fs (k + 1)) where
    by : (b : Bool) → length (taken_from (k + 1) fs) ≤ length fs → length (cond b ((k, f) ∷ taken_from (k + 1) fs) (taken_from (k + 1) fs)) ≤ length (f ∷ fs)
    by true rest = omega arith
    by false rest = omega arith

-- A list whose items are the numbers whose bit is set.
module _ {A : Type 0} (key value : A → ℕ) (xs : List A) (words slots : List ℕ) (n : ℕ) (end : length slots ≤ n) (so_far : map (entry key value) xs ++ taken_from words n (drop n slots) ≡ taken_from words 0 slots) where
  -- It has all of them.
  all_taken : map (entry key value) xs ≡ taken_from words 0 slots
  all_taken = sym (append-nil _) ∙ ap (λ ys. map (entry key value) xs ++ taken_from words n ys) (sym (drop_all n slots end)) ∙ so_far

  -- Its map is the table.
  pub numbers-table : keyed key value xs ≡ table_of words slots
  unfolding table_of
  numbers-table = ap (λ es. finmap.from_entries {R = nat_cmp} es) all_taken ∙ table_taken words slots 0

  -- Its numbers rise.
  pub numbers-rise : IsStrictlyIncreasing (map key xs)
  numbers-rise =
      let keys : map key xs ≡ keys_of (taken_from words 0 slots) = sym (map-map (λ e. e.0) (entry key value) xs) ∙ ap (map (λ e. e.0)) all_taken in
      IsStrictlyIncreasing-from_sorted (map key xs) (subst (IsStrictlySortedBy nat_cmp) (sym keys) (taken_sorted words slots 0))

  -- There are at most as many of them as slots.
  pub numbers-le : length xs ≤ length slots
  numbers-le = omega (arith, taken-le words slots 0, sym (length-map xs (entry key value)) ∙ ap length all_taken)
