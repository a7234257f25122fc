-- Lists that have just the keys whose value is chosen, each once, as values come, change and go.
use Rattle.std.proofs.Common.{◌≡◌, ◌≤◌, ◌<◌, ℕ, ◌+◌, ◌-◌, Bool, true, false, ◌||◌, List, [], ◌∷◌, ◌++◌, length, suc, refl, sym, ap, ◌∙◌, subst, cond, nat_eq, arith, length-append}
use Rattle.std.specs.Prelude.{Option, Some, None, IsSome, slice_get, slice_index_or}
use Rattle.std.specs.Cmp.{nat_cmp_total, nat_eq_equiv, unsigned_tied}
use Rattle.std.specs.FinMap as map
use Rattle.std.specs.FinMap.{get-insert, get-remove}
use Rattle.std.specs.List.{AllByRecursion, IsDistinct, list_any, swap_remove}
use Rattle.std.specs.Ordering.{nat_cmp}
use Rattle.std.specs.Option.{option_map_or}
use Rattle.std.proofs.lemmas.Bool.{eqb-true, false≢true}
use Rattle.std.proofs.lemmas.List.Sums.{sum_by-append, sum_by-swap_remove}
use Rattle.std.proofs.lemmas.Map.Steps.{length-le_from_keys}
use Rattle.std.proofs.lemmas.Option.{get_or_from_slice_get, slice_get_within}
use Rattle.af_base.specs.Counts.{ListsExactly, count_in, one}
use Rattle.af_base.specs.World.{Map}
use Rattle.af_base.proofs.HashMaps.{find_is}
use Rattle.af_base.proofs.PlacesAndCounts.{count-cons}
use Rattle.af_base.proofs.Lookups.{itself}

-- ---- counts in lists

-- One at the end counts for itself.
count_pushed : (f k : ℕ) (xs : List ℕ) → count_in f (xs ++ k ∷ []) ≡ count_in f xs + one f k
count_pushed f k xs = let more = sum_by-append (one f) xs (k ∷ []) in let last = count-cons f k [] in omega (arith, more, last)

-- Removing the element at a position by a swap with the last lowers its count by one.
pub count_swapped : (f k i d : ℕ) (xs ys : List ℕ) → slice_get xs i ≡ Some k → ys ≡ swap_remove xs i d → count_in f ys ≡ count_in f xs - one f k
count_swapped f k i d xs ys at is =
    let less = sum_by-swap_remove (one f) xs i d (slice_get_within xs i k at) in
    let here : one f (slice_index_or xs i d) ≡ one f k = ap (one f) (get_or_from_slice_get xs i k d at) in
    ap (count_in f) is ∙ omega (arith, less, here)

-- A position beyond the list adds nothing to a count.
pub count_nowhere : (k : ℕ) (xs : List ℕ) → ((i : ℕ) → i < length xs → nat_eq (slice_index_or xs i 0) k ≡ false) → count_in k xs ≡ 0
count_nowhere k [] none = refl
count_nowhere k (x ∷ xs) none =
    let here : one k x ≡ 0 = ap {B = ℕ} (λ b. cond b 1 0) (nat_eq_equiv.symm k x ∙ none 0 (omega arith)) in
    let rest = count_nowhere k xs (λ i low. none (suc i) (omega (arith, low))) in
    omega (arith, count-cons k x xs, here, rest)

-- Of what is not there none can go.
pub count_absent : (f k : ℕ) (xs : List ℕ) → count_in k xs ≡ 0 → count_in f xs ≡ count_in f xs - one f k
count_absent f k xs none = by (nat_eq f k) refl where
  by : (b : Bool) → nat_eq f k ≡ b → count_in f xs ≡ count_in f xs - cond b 1 0
  by true e = let zero_too = ap (λ z. count_in z xs) (eqb-true f k e) ∙ none in omega (arith, zero_too)
  by false e = omega arith

-- A value that is counted zero times differs from each element.
apart_from : (k : ℕ) (xs : List ℕ) → count_in k xs ≡ 0 → AllByRecursion (λ y. nat_eq k y ≡ false) xs
apart_from k [] none = tt
apart_from k (x ∷ xs) none = by (nat_eq k x) refl (apart_from k xs) where
  by : (b : Bool) → nat_eq k x ≡ b → (count_in k xs ≡ 0 → AllByRecursion (λ y. nat_eq k y ≡ false) xs) → (nat_eq k x ≡ false) × AllByRecursion (λ y. nat_eq k y ≡ false) xs
  by true e rest = absurd (let here : one k x ≡ 1 = ap {B = ℕ} (λ b. cond b 1 0) e in omega (arith, none, count-cons k x xs, here))
  by false e rest = (e, rest (let here : one k x ≡ 0 = ap {B = ℕ} (λ b. cond b 1 0) e in omega (arith, none, count-cons k x xs, here)))

-- A list that has each number at most once has no two alike.
distinct : (xs : List ℕ) → ((f : ℕ) → count_in f xs ≤ 1) → IsDistinct nat_eq xs
unfolding IsDistinct
distinct [] few = tt
distinct (x ∷ xs) few =
    let here : one x x ≡ 1 = ap {B = ℕ} (λ b. cond b 1 0) (itself x) in
    let most = few x in
    (apart_from x xs (omega (arith, most, count-cons x x xs, here)), distinct xs (λ f. let most = few f in omega (arith, most, count-cons f x xs)))

-- An element of a list is counted.
counts : (f : ℕ) (xs : List ℕ) → list_any (nat_eq f) xs ≡ true → 0 < count_in f xs
counts f [] there = absurd (false≢true there)
counts f (x ∷ xs) there = by (nat_eq f x) refl there (counts f xs) where
  by : (b : Bool) → nat_eq f x ≡ b → (b || list_any (nat_eq f) xs) ≡ true → (list_any (nat_eq f) xs ≡ true → 0 < count_in f xs) → 0 < count_in f (x ∷ xs)
  by true e is rest = let here : one f x ≡ 1 = ap {B = ℕ} (λ b. cond b 1 0) e in omega (arith, count-cons f x xs, here)
  by false e is rest = let more = rest is in omega (arith, count-cons f x xs, more)

-- ---- lists of the chosen

module _ {X : Type 0} (chosen : X → Bool) where
  -- Whether the value at f is chosen.
  abbrev chosen_at : Map X → ℕ → Bool
  chosen_at m f = option_map_or chosen (map.get m f) false

  -- The chosen keys after a value was inserted.
  chosen_put : (m : Map X) (k : ℕ) (x : X) (f : ℕ) → chosen_at (map.insert m k x) f ≡ cond (nat_eq f k) (chosen x) (chosen_at m f)
  chosen_put m k x f = ap (λ o. option_map_or chosen o false) (get-insert nat_cmp_total m k x f ∙ ap (λ b. cond b (Some x) (map.get m f)) (unsigned_tied f k)) ∙ by (nat_eq f k) where
    by : (b : Bool) → option_map_or chosen (cond b (Some x) (map.get m f)) false ≡ cond b (chosen x) (chosen_at m f)
    by true = refl
    by false = refl

  -- And after one was taken out.
  chosen_taken : (m : Map X) (k f : ℕ) → chosen_at (map.remove m k) f ≡ cond (nat_eq f k) false (chosen_at m f)
  chosen_taken m k f = ap (λ o. option_map_or chosen o false) (get-remove nat_cmp_total m k f ∙ ap (λ b. cond b None (map.get m f)) (unsigned_tied f k)) ∙ by (nat_eq f k) where
    by : (b : Bool) → option_map_or chosen (cond b None (map.get m f)) false ≡ cond b false (chosen_at m f)
    by true = refl
    by false = refl

  -- No more are chosen than have a value.
  just-few : (m : Map X) (fs : List ℕ) → ListsExactly chosen m fs → length fs ≤ map.len m
  just-few m fs h =
      let most = length-le_from_keys nat_eq_equiv fs (map.entries m) (distinct fs once) (λ f e. subst IsSome (map.get-entries m f ∙ find_is (map.entries m) f) (known f (counts f fs e))) in
      omega (arith, most, map.len-entries m) where
        low : (b : Bool) → cond b 1 0 ≤ 1
        low true = omega arith
        low false = omega arith

        once : (f : ℕ) → count_in f fs ≤ 1
        once f = let most = low (chosen_at m f) in omega (arith, h f, most)

        by : (o : Option X) → 0 < cond (option_map_or chosen o false) 1 0 → IsSome o
        by None some = absurd (omega (arith, some))
        by (Some x) some = refl

        known : (f : ℕ) → 0 < count_in f fs → IsSome (map.get m f)
        known f some = by (map.get m f) (omega (arith, some, h f))

  -- Where nobody is chosen the list is empty.
  pub just-none : (m : Map X) (fs : List ℕ) → fs ≡ [] → ((f : ℕ) → chosen_at m f ≡ false) → ListsExactly chosen m fs
  just-none m fs empty none f = ap (count_in f) empty ∙ sym (ap {B = ℕ} (λ b. cond b 1 0) (none f))

  -- So it is where there is nobody.
  pub just-empty : (m : Map X) (fs : List ℕ) → m ≡ map.empty → fs ≡ [] → ListsExactly chosen m fs
  just-empty m fs none empty = just-none m fs empty (λ f. ap (λ m. chosen_at m f) none ∙ ap (λ o. option_map_or chosen o false) (map.get-empty nat_cmp f))

  module _ (m n : Map X) (fs : List ℕ) (k : ℕ) (h : ListsExactly chosen m fs) where
    -- Where the choice is the same the list stays.
    kept : ((f : ℕ) → chosen_at n f ≡ chosen_at m f) → ListsExactly chosen n fs
    kept same f = h f ∙ sym (ap {B = ℕ} (λ b. cond b 1 0) (same f))

    -- Without k the list is right where k is not chosen, and all others are as before.
    less : (gs : List ℕ) → ((f : ℕ) → chosen_at n f ≡ cond (nat_eq f k) false (chosen_at m f)) → ((f : ℕ) → count_in f gs ≡ count_in f fs - one f k) → ListsExactly chosen n gs
    less gs is off f = off f ∙ ap (λ c. c - one f k) (h f) ∙ by (nat_eq f k) (chosen_at m f) ∙ sym (ap {B = ℕ} (λ b. cond b 1 0) (is f)) where
      by : (b c : Bool) → ◌≡◌ {A = ℕ} (cond c 1 0 - cond b 1 0) (cond (cond b false c) 1 0)
      by true true = refl
      by true false = refl
      by false true = refl
      by false false = refl

    -- A chosen value is removed, and its key from the list.
    pub just-gone : (gs : List ℕ) → n ≡ map.remove m k → ((f : ℕ) → count_in f gs ≡ count_in f fs - one f k) → ListsExactly chosen n gs
    just-gone gs is = less gs (λ f. ap (λ n. chosen_at n f) is ∙ chosen_taken m k f)

    -- A value is removed that was not chosen.
    pub just-without : n ≡ map.remove m k → chosen_at m k ≡ false → ListsExactly chosen n fs
    just-without is not = kept (λ f. ap (λ n. chosen_at n f) is ∙ chosen_taken m k f ∙ by f (nat_eq f k) refl) where
      by : (f : ℕ) (b : Bool) → nat_eq f k ≡ b → cond b false (chosen_at m f) ≡ chosen_at m f
      by f true e = sym (ap (chosen_at m) (eqb-true f k e) ∙ not)
      by f false e = refl

    module _ (x : X) (is : n ≡ map.insert m k x) where
      now : (f : ℕ) → chosen_at n f ≡ cond (nat_eq f k) (chosen x) (chosen_at m f)
      now f = ap (λ n. chosen_at n f) is ∙ chosen_put m k x f

      -- Another value is as much chosen as the one before.
      pub just-same : chosen x ≡ chosen_at m k → ListsExactly chosen n fs
      just-same same = kept (λ f. now f ∙ by f (nat_eq f k) refl) where
        by : (f : ℕ) (b : Bool) → nat_eq f k ≡ b → cond b (chosen x) (chosen_at m f) ≡ chosen_at m f
        by f true e = same ∙ sym (ap (chosen_at m) (eqb-true f k e))
        by f false e = refl

      -- A value is no longer chosen, and its key is removed from the list.
      pub just-struck : (gs : List ℕ) → chosen x ≡ false → ((f : ℕ) → count_in f gs ≡ count_in f fs - one f k) → ListsExactly chosen n gs
      just-struck gs not = less gs (λ f. now f ∙ ap (λ b. cond (nat_eq f k) b (chosen_at m f)) not)

      -- One is chosen, and its key is the last of the list, which is no longer than there are
      -- values.
      pub just-pushed : chosen x ≡ true → chosen_at m k ≡ false → ListsExactly chosen n (fs ++ k ∷ []) × (length fs < map.len n)
      just-pushed so not = (each, let most = just-few n (fs ++ k ∷ []) each in omega (arith, most, length-append fs (k ∷ []))) where
        each : ListsExactly chosen n (fs ++ k ∷ [])
        each f = count_pushed f k fs ∙ ap (λ c. c + one f k) (h f) ∙ by (nat_eq f k) refl ∙ sym (ap {B = ℕ} (λ b. cond b 1 0) (now f)) where
          by : (b : Bool) → nat_eq f k ≡ b → cond (chosen_at m f) 1 0 + cond b 1 0 ≡ cond (cond b (chosen x) (chosen_at m f)) 1 0
          by true e = let none = ap {B = ℕ} (λ b. cond b 1 0) (ap (chosen_at m) (eqb-true f k e) ∙ not) in let here = ap {B = ℕ} (λ b. cond b 1 0) so in omega (arith, none, here)
          by false e = omega arith
