-- Sums of two maps whose values compare key by key.
use Rattle.std.proofs.Common.{◌≡◌, ◌≤◌, ℕ, ◌*◌, T, inl, inr, List, [], ◌∷◌, length, refl, sym, ap, ◌∙◌, subst, arith}
use Rattle.std.specs.Prelude.{Some}
use Rattle.std.specs.List.{sum_by}
use Rattle.std.specs.Ordering.{nat_cmp}
use Rattle.std.specs.FinMap as map
use Rattle.std.specs.FinMap.{find, is_sorted, entries_sorted, get-entries}
use Rattle.std.specs.FinMap.Entries.{below_all}
use Rattle.std.proofs.lemmas.List.Sums.{sum_by-cons}
use Rattle.af_base.specs.World.{Map}
use Rattle.af_base.specs.Counts.{total_of}
use Rattle.af_base.proofs.PlacesAndCounts.{here, later, none_below}
use Rattle.af_base.proofs.Sums.{total-remove, first, second}
use Rattle.af_base.proofs.Lookups.{none_some, remove-other, same_or_not}

module _ {X Y : Type 0} (F : X → ℕ) (G : Y → ℕ) where
  -- Each value of the first map has one at its key in the second that weighs as much or more.
  abbrev pub IsBelow : Map X → Map Y → Type 0
  IsBelow m n = (k : ℕ) (x : X) → map.get m k ≡ Some x → (y : Y) × (map.get n k ≡ Some y) × (F x ≤ G y)

  -- The same for a list of entries in order.
  entries_below : (es : List (ℕ × X)) → T (is_sorted nat_cmp es) → (n : Map Y) → ((k : ℕ) (x : X) → find nat_cmp k es ≡ Some x → (y : Y) × (map.get n k ≡ Some y) × (F x ≤ G y)) → sum_by (λ e. F e.1) es ≤ total_of G n
  entries_below [] s n h = omega arith
  entries_below (e ∷ es) s n h =
      let at = h e.0 e.1 (here e es) in
      let rest = entries_below es (second (below_all nat_cmp e.0 es) (is_sorted nat_cmp es) s) (map.remove n e.0) (λ k x is.
      let up = h k x (later e es k x (first _ _ s) is (nat_cmp k e.0) refl) in
      elim (same_or_not k e.0) [
        | inl same ↦ absurd (none_some x (sym (none_below e.0 es (first _ _ s)) ∙ ap (λ q. find nat_cmp q es) (sym same) ∙ is))
        | inr apart ↦ (up.0, remove-other n e.0 k apart ∙ up.1, up.2)
      ]) in
      omega (arith, at.2, rest, sum_by-cons (λ d. F d.1) e es, total-remove G n e.0 at.0 at.1)

  -- The sum is at most the other.
  pub total-below : (m : Map X) (n : Map Y) → IsBelow m n → total_of F m ≤ total_of G n
  total-below m n h = entries_below (map.entries m) (entries_sorted m) n (λ k x is. h k x (get-entries m k ∙ is))

-- Two maps with values that weigh the same at the same keys add up to the same.
pub total-same : {X Y : Type 0} (F : X → ℕ) (G : Y → ℕ) (m : Map X) (n : Map Y)
    → ((k : ℕ) (x : X) → map.get m k ≡ Some x → (y : Y) × (map.get n k ≡ Some y) × (F x ≡ G y))
    → ((k : ℕ) (y : Y) → map.get n k ≡ Some y → (x : X) × (map.get m k ≡ Some x) × (F x ≡ G y)) → total_of F m ≡ total_of G n
total-same F G m n up down =
    let low = total-below F G m n (λ k x is. let at = up k x is in (at.0, at.1, omega (arith, at.2))) in
    let high = total-below G F n m (λ k y is. let at = down k y is in (at.0, at.1, omega (arith, at.2))) in
    omega (arith, low, high)

-- A sum of ones is how many there are.
entries_count : {X : Type 0} (es : List (ℕ × X)) → sum_by (λ e. 1) es ≡ length es
entries_count [] = refl
entries_count (e ∷ es) = omega (arith, sum_by-cons (λ d. 1) e es, entries_count es)

-- How many values there are is what they add up to at one each.
pub total-count : {X : Type 0} (m : Map X) → total_of (λ x. 1) m ≡ map.len m
total-count m = entries_count (map.entries m) ∙ sym (map.len-entries m)

-- The same for a list of entries in order.
entries_most : {X : Type 0} (F : X → ℕ) (b : ℕ) (es : List (ℕ × X)) → T (is_sorted nat_cmp es) → ((k : ℕ) (x : X) → find nat_cmp k es ≡ Some x → F x ≤ b) → sum_by (λ e. F e.1) es ≤ length es * b
entries_most F b [] s h = omega arith
entries_most F b (e ∷ es) s h =
    let rest : sum_by (λ e. F e.1) es ≤ length es * b = entries_most F b es (second (below_all nat_cmp e.0 es) (is_sorted nat_cmp es) s) (λ k x is. h k x (later e es k x (first _ _ s) is (nat_cmp k e.0) refl)) in
    let at = h e.0 e.1 (here e es) in
    omega (arith, at, rest, sum_by-cons (λ d. F d.1) e es)

-- Values of at most b each add up to at most b times their number.
pub total-most : {X : Type 0} (F : X → ℕ) (b : ℕ) (m : Map X) → ((k : ℕ) (x : X) → map.get m k ≡ Some x → F x ≤ b) → total_of F m ≤ map.len m * b
total-most F b m h =
    let most = entries_most F b (map.entries m) (entries_sorted m) (λ k x is. h k x (get-entries m k ∙ is)) in
    subst (λ n. total_of F m ≤ n * b) (sym (map.len-entries m)) most
