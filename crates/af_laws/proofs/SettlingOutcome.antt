-- Settling has an outcome: files that nothing holds are freed one by one, until none is left.
use Rattle.std.proofs.Common.{◌≡◌, ◌⊎◌, inl, inr, ◌<◌, ◌≤◌, ℕ, zero, suc, Bool, true, false, not, List, [], ◌∷◌, refl, sym, ap, ◌∙◌, subst, cond, arith, nat_eq}
use Rattle.std.specs.List.{Contains, count_by, list_any}
use Rattle.std.specs.Ordering.{eq_by_cmp, nat_cmp}
use Rattle.std.specs.FinMap as map
use Rattle.std.proofs.lemmas.Bool.{cases_Bool, eq-eqb, false≢true, or_cases}
use Rattle.std.proofs.lemmas.List.Elements.{Contains-append_cases, Contains-append_right}
use Rattle.std.proofs.lemmas.List.Sums.{sum_by-cons}
use Rattle.af_base.specs.World.{IsLive, World, is_live}
use Rattle.af_base.specs.Counts.{refs}
use Rattle.af_base.specs.Unheld.{Settles, without}
use Rattle.af_base.proofs.PlacesAndCounts.{held_by_none, held_by_some}
use Rattle.af_base.proofs.SettledWorlds.{live-without, settled_by, settles_first, settles_none, stays}
use Rattle.af_laws.proofs.Chains.{same_number}
use Rattle.af_laws.proofs.PlaceCounts.{none_or_some}
use Rattle.af_laws.specs.Settling.{SettlesToSome}

-- A test that fails where another passes passes less often.
module _ (p q : ℕ → Bool) (weaker : (x : ℕ) → q x ≡ true → p x ≡ true) where
  -- It counts one number at most as often.
  one_less : (x : ℕ) → cond {A = ℕ} (q x) 1 0 ≤ cond {A = ℕ} (p x) 1 0
  one_less x = by (q x) refl (p x) refl where
    by : (a : Bool) → q x ≡ a → (b : Bool) → p x ≡ b → cond {A = ℕ} a 1 0 ≤ cond {A = ℕ} b 1 0
    by false d b e = omega arith
    by true d true e = omega arith
    by true d false e = absurd (false≢true (sym e ∙ weaker x d))

  -- It counts a list at most as often.
  not_more : (xs : List ℕ) → count_by q xs ≤ count_by p xs
  not_more [] = omega arith
  not_more (x ∷ xs) = omega (arith, sum_by-cons (λ y. cond {A = ℕ} (q y) 1 0) x xs, sum_by-cons (λ y. cond {A = ℕ} (p y) 1 0) x xs, one_less x, not_more xs)

  module _ (f : ℕ) (passes : p f ≡ true) (fails : q f ≡ false) where
    pub fewer : (xs : List ℕ) → Contains xs f → count_by q xs < count_by p xs
    fewer [] h = absurd (omega (arith, h.1))
    fewer (x ∷ xs) h = elim (Contains-append_cases (x ∷ []) xs f h) [
      | inl a ↦
          let same : x ≡ f = only a in
          let counts : cond {A = ℕ} (p x) 1 0 ≡ 1 = ap (λ y. cond {A = ℕ} (p y) 1 0) same ∙ ap {B = ℕ} (λ b. cond b 1 0) passes in
          let not_counted : cond {A = ℕ} (q x) 1 0 ≡ 0 = ap (λ y. cond {A = ℕ} (q y) 1 0) same ∙ ap {B = ℕ} (λ b. cond b 1 0) fails in
          omega (arith, sum_by-cons (λ y. cond {A = ℕ} (q y) 1 0) x xs, sum_by-cons (λ y. cond {A = ℕ} (p y) 1 0) x xs, counts, not_counted, not_more xs)
      | inr a ↦ omega (arith, sum_by-cons (λ y. cond {A = ℕ} (q y) 1 0) x xs, sum_by-cons (λ y. cond {A = ℕ} (p y) 1 0) x xs, one_less x, fewer xs a)
    ] where
      only : Contains (x ∷ []) f → x ≡ f
      only (zero, l, e) = e
      only (suc k, l, e) = absurd (omega (arith, l))

-- Among some numbers, a live file that no place holds, or none.
unplaced_or_not : (w : World) (ks : List ℕ) → ((f : ℕ) × IsLive w f × (refs w f ≡ 0)) ⊎ ((f : ℕ) → Contains ks f → IsLive w f → 0 < refs w f)
unplaced_or_not w [] = inr (λ f h. absurd (omega (arith, h.1)))
unplaced_or_not w (k ∷ ks) = by (none_or_some (refs w k)) (cases_Bool (is_live w k)) (unplaced_or_not w ks) where
  here : (f : ℕ) → (IsLive w k → 0 < refs w k) → ((f : ℕ) → Contains ks f → IsLive w f → 0 < refs w f) → Contains (k ∷ []) f ⊎ Contains ks f → IsLive w f → 0 < refs w f
  here f first rest (inl (zero, l, e)) live = subst (λ x. 0 < refs w x) e (first (subst (IsLive w) (sym e) live))
  here f first rest (inl (suc n, l, e)) live = absurd (omega (arith, l))
  here f first rest (inr h) live = rest f h live

  by : (refs w k ≡ 0) ⊎ (0 < refs w k) → (is_live w k ≡ true) ⊎ (is_live w k ≡ false) → ((f : ℕ) × IsLive w f × (refs w f ≡ 0)) ⊎ ((f : ℕ) → Contains ks f → IsLive w f → 0 < refs w f)
      → ((f : ℕ) × IsLive w f × (refs w f ≡ 0)) ⊎ ((f : ℕ) → Contains (k ∷ ks) f → IsLive w f → 0 < refs w f)
  by (inl z) (inl live) rest = inl (k, live, z)
  by z live (inl found) = inl found
  by (inr p) live (inr rest) = inr (λ f h. here f (λ l. p) rest (Contains-append_cases (k ∷ []) ks f h))
  by (inl z) (inr dead) (inr rest) = inr (λ f h. here f (λ l. absurd (false≢true (sym dead ∙ l))) rest (Contains-append_cases (k ∷ []) ks f h))

-- A live file that is freed is one live file less.
still_live : (w : World) (f x : ℕ) → IsLive (without (nat_eq f) w) x → IsLive w x
still_live w f x l = (stays _ _ (sym (live-without (nat_eq f) w x) ∙ l)).1

-- Without a live file fewer are live.
fewer_live : (w : World) (f : ℕ) (ks : List ℕ) → IsLive w f → Contains ks f → count_by (is_live (without (nat_eq f) w)) ks < count_by (is_live w) ks
fewer_live w f ks live among =
    fewer (is_live w) (is_live (without (nat_eq f) w)) (still_live w f) f live (live-without (nat_eq f) w f ∙ ap (λ b. cond (not b) (is_live w f) false) (eq-eqb f f refl)) ks among

-- Where each live file has a place.
held_settles : (w : World) (ks : List ℕ) → ((f : ℕ) → IsLive w f → Contains ks f) → ((f : ℕ) → Contains ks f → IsLive w f → 0 < refs w f) → (new : World) × Settles w new
held_settles w ks among held = (w, settles_none w (settled_by w (λ f live. held_by_some w f (held f (among f live) live))))

-- Where as many files are live as n at most, and each is among some numbers.
settles_within : (n : ℕ) (ks : List ℕ) (w : World) → ((f : ℕ) → IsLive w f → Contains ks f) → count_by (is_live w) ks ≤ n → (new : World) × Settles w new
settles_within zero ks w among few = elim (unplaced_or_not w ks) [
  | inr held ↦ held_settles w ks among held
  | inl found ↦ absurd (omega (arith, few, fewer_live w found.0 ks found.1 (among found.0 found.1)))
]
settles_within (suc n) ks w among few = elim (unplaced_or_not w ks) [
  | inr held ↦ held_settles w ks among held
  | inl found ↦
      let unplaced = held_by_none w found.0 found.2 in
      let rest = settles_within n ks (without (nat_eq found.0) w) (λ f l. among f (still_live w found.0 f l)) (omega (arith, few, fewer_live w found.0 ks found.1 (among found.0 found.1))) in
      (rest.0, settles_first w found.0 found.1 unplaced.0 unplaced.1 rest.0 rest.1)
]

-- A live file is among the keys.
pub among_keys : (w : World) (f : ℕ) → IsLive w f → Contains (map.keys w.files) f
among_keys w f live = found (map.keys w.files) (sym (map.contains_key-keys w.files f) ∙ live) where
  found : (ks : List ℕ) → list_any (eq_by_cmp nat_cmp f) ks ≡ true → Contains ks f
  found [] e = absurd (false≢true e)
  found (k ∷ ks) e = elim (or_cases _ _ e) [
    | inl d ↦ (0, omega arith, sym (same_number f k d))
    | inr d ↦ Contains-append_right (k ∷ []) ks f (found ks d)
  ]

pub settles_to_some : SettlesToSome
settles_to_some w = settles_within (count_by (is_live w) (map.keys w.files)) (map.keys w.files) w (among_keys w) (omega arith)
