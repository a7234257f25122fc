-- The lowest free numbers are free, rise, and pass none over.
use Rattle.std.proofs.Common.{◌≡◌, ◌⊎◌, inl, inr, ◌<◌, ◌≤◌, ℕ, zero, suc, ◌+◌, Bool, true, false, not, List, [], ◌∷◌, length, take, drop, refl, sym, ap, ◌∙◌, subst, cond, arith}
use Rattle.std.specs.Prelude.{filter}
use Rattle.std.specs.List.{Contains, range_with_len, slice_index_or}
use Rattle.std.specs.FinMap as map
use Rattle.std.proofs.lemmas.Bool.{cases_order, false≢true, not-true}
use Rattle.std.proofs.lemmas.List.{length-take, take-append-drop}
use Rattle.std.proofs.lemmas.List.Elements.{Contains-append_cases, Contains-append_left, Contains-append_right, Contains-get_or}
use Rattle.af_base.specs.World.{Process}
use Rattle.af_base.specs.Table.{free_numbers}
use Rattle.af_laws.specs.Numbering.{AsManyAsThereAre, FreeNumbersAreFree, GivenInOrder, NoLowerIsPassedOver}

-- An element of a list is its first, or one of the rest.
first_or_rest : (x : ℕ) (xs : List ℕ) (k : ℕ) → Contains (x ∷ xs) k → (x ≡ k) ⊎ Contains xs k
first_or_rest x xs k h = elim (Contains-append_cases (x ∷ []) xs k h) [
  | inl a ↦ inl (only a)
  | inr b ↦ inr b
] where
  only : Contains (x ∷ []) k → x ≡ k
  only (zero, l, e) = e
  only (suc n, l, e) = absurd (omega (arith, l))

module _ (test : ℕ → Bool) where
  -- The numbers of a range that pass.
  abbrev passing : ℕ → ℕ → List ℕ
  passing a n = filter test (range_with_len a n)

  -- They and one number before them, if it passes.
  abbrev step : Bool → ℕ → ℕ → List ℕ
  step b a n = cond b (a ∷ passing (a + 1) n) (passing (a + 1) n)

  -- A number that passes is in the range, and passes the test.
  is_passing : (a n k : ℕ) → Contains (passing a n) k → (a ≤ k) × (k < a + n) × (test k ≡ true)
  is_passing a zero k h = absurd (omega (arith, h.1))
  is_passing a (suc n) k h = by (test a) refl (is_passing (a + 1) n k) h where
    by : (b : Bool) → test a ≡ b → (Contains (passing (a + 1) n) k → (a + 1 ≤ k) × (k < a + 1 + n) × (test k ≡ true)) → Contains (step b a n) k → (a ≤ k) × (k < a + suc n) × (test k ≡ true)
    by false e rest h = let r = rest h in (omega (arith, r.0), omega (arith, r.1), r.2)
    by true e rest h = elim (first_or_rest a (passing (a + 1) n) k h) [
      | inl same ↦ (omega (arith, same), omega (arith, same), ap test (sym same) ∙ e)
      | inr more ↦ let r = rest more in (omega (arith, r.0), omega (arith, r.1), r.2)
    ]

  -- And what is in the range and passes is there.
  passes : (a n k : ℕ) → a ≤ k → k < a + n → test k ≡ true → Contains (passing a n) k
  passes a zero k low high e = absurd (omega (arith, low, high))
  passes a (suc n) k low high e = by (test a) refl (λ above. passes (a + 1) n k above (omega (arith, high)) e) (cases_order a k) where
    by : (b : Bool) → test a ≡ b → (a + 1 ≤ k → Contains (passing (a + 1) n) k) → (a ≡ k) ⊎ ((a < k) ⊎ (k < a)) → Contains (step b a n) k
    by true d rest (inl same) = (0, omega arith, same)
    by false d rest (inl same) = absurd (false≢true (sym d ∙ ap test same ∙ e))
    by true d rest (inr (inl above)) = Contains-append_right (a ∷ []) (passing (a + 1) n) k (rest (omega (arith, above)))
    by false d rest (inr (inl above)) = rest (omega (arith, above))
    by b d rest (inr (inr below)) = absurd (omega (arith, below, low))

  -- Of the first few, none is there while a lower one is not.
  none_passed_over : (a n j k m : ℕ) → Contains (take j (passing a n)) k → Contains (passing a n) m → m < k → Contains (take j (passing a n)) m
  none_passed_over a zero j k m h g below = absurd (omega (arith, g.1))
  none_passed_over a (suc n) j k m h g below = by (test a) j (λ i. none_passed_over (a + 1) n i k m) (is_passing (a + 1) n m) h g where
    by : (b : Bool) (j : ℕ) → ((i : ℕ) → Contains (take i (passing (a + 1) n)) k → Contains (passing (a + 1) n) m → m < k → Contains (take i (passing (a + 1) n)) m)
        → (Contains (passing (a + 1) n) m → (a + 1 ≤ m) × (m < a + 1 + n) × (test m ≡ true)) → Contains (take j (step b a n)) k → Contains (step b a n) m → Contains (take j (step b a n)) m
    by false j rest above h g = rest j h g below
    by true zero rest above h g = absurd (omega (arith, h.1))
    by true (suc j) rest above h g = first (first_or_rest a (take j (passing (a + 1) n)) k h) (first_or_rest a (passing (a + 1) n) m g) where
      first : (a ≡ k) ⊎ Contains (take j (passing (a + 1) n)) k → (a ≡ m) ⊎ Contains (passing (a + 1) n) m → Contains (a ∷ take j (passing (a + 1) n)) m
      first c (inl same) = (0, omega arith, same)
      first (inl same) (inr more) = absurd (omega (arith, same, below, (above more).0))
      first (inr c) (inr more) = Contains-append_right (a ∷ []) (take j (passing (a + 1) n)) m (rest j c more below)

  -- They rise.
  abbrev Rises : List ℕ → Type 0
  Rises xs = (i j : ℕ) → i < j → j < length xs → slice_index_or xs i 0 < slice_index_or xs j 0

  -- The first ones of those behind a number are above it.
  all_above : (a n d j : ℕ) → j < length (take d (passing (a + 1) n)) → a < slice_index_or (take d (passing (a + 1) n)) j 0
  all_above a n d j h =
      let xs : List ℕ = passing (a + 1) n in
      let x : ℕ = slice_index_or (take d xs) j 0 in
      let within : Contains xs x = subst (λ ys. Contains ys x) (take-append-drop d xs) (Contains-append_left (take d xs) (drop d xs) x (Contains-get_or (take d xs) j 0 h)) in
      omega (arith, (is_passing (a + 1) n x within).0)

  -- The first ones rise.
  rises : (a n c : ℕ) → Rises (take c (passing a n))
  rises a zero c = nothing c where
    nothing : (c : ℕ) → Rises (take c [])
    nothing zero i j l h = absurd (omega (arith, h))
    nothing (suc c) i j l h = absurd (omega (arith, h))
  rises a (suc n) c = by (test a) c (λ d. rises (a + 1) n d) where
    by : (b : Bool) (c : ℕ) → ((d : ℕ) → Rises (take d (passing (a + 1) n))) → Rises (take c (step b a n))
    by false c rest = rest c
    by true zero rest = λ i j l h. absurd (omega (arith, h))
    by true (suc c) rest = more where
      more : Rises (a ∷ take c (passing (a + 1) n))
      more i zero l h = absurd (omega (arith, l))
      more zero (suc j) l h = all_above a n c j (omega (arith, h))
      more (suc i) (suc j) l h = rest c i j (omega (arith, l)) (omega (arith, h))

-- Whether the number is not open.
abbrev is_free : Process → ℕ → Bool
is_free p n = not (map.contains_key p.table n)

pub free_numbers_are_free : FreeNumbersAreFree
free_numbers_are_free p n = (
  λ h. let r = is_passing (is_free p) 0 p.limit n h in (omega (arith, r.1), not-true _ r.2),
  λ f. passes (is_free p) 0 p.limit n (omega arith) (omega (arith, f.0)) (ap not f.1),
)

pub as_many_as_there_are : AsManyAsThereAre
as_many_as_there_are k p = length-take k (free_numbers p)

pub given_in_order : GivenInOrder
given_in_order k p = rises (is_free p) 0 p.limit k

pub no_lower_is_passed_over : NoLowerIsPassedOver
no_lower_is_passed_over k p n m h f below = none_passed_over (is_free p) 0 p.limit k n m h ((free_numbers_are_free p m).1 f) below
