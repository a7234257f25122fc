-- Lookups in a map, before and after a change.
use Rattle.std.proofs.Common.{rules, ◌≡◌, ℕ, true, false, ◌⊎◌, inl, inr, refl, sym, ap, subst, ◌∙◌, cond, nat_eq}
use Rattle.std.specs.Prelude.{Option, Some, None, IsTrue, IsSome, is_some, option_map}
use Rattle.std.specs.Option.{option_map_or}
use Rattle.std.specs.Ordering.{nat_cmp, eq_by_cmp}
use Rattle.std.specs.Cmp.{nat_cmp_total, unsigned_tied}
use Rattle.std.specs.FinMap as map
use Rattle.std.proofs.lemmas.Bool.{cases_Bool, eq-eqb, eqb-true, false≢true}
use Rattle.af_base.specs.World.{Map}
use Rattle.af_base.specs.Changes.{change_at}
use Rattle.af_base.proofs.AllowedSteps.{get-change_at}

-- Nothing is not something.
pub none_some : {X : Type 0} (x : X) → None ≡ Some x → ⊥
none_some x e = false≢true (ap (λ o. option_map_or (λ _. true) o false) e)

-- Two values that are there are one where they are the same option.
pub some_same : {X : Type 0} (x y : X) → Some x ≡ Some y → x ≡ y
some_same x y e = ap (λ o. option_map_or (λ z. z) o x) e

-- Where a value is, there is something.
pub some_is : {X : Type 0} (o : Option X) (x : X) → o ≡ Some x → IsSome o
some_is o x e = subst IsSome (sym e) (search rules)

-- A lookup that succeeds finds a value of the map.
pub there : {X : Type 0} (o : Option X) → IsTrue (is_some o) → (x : X) × (o ≡ Some x)
there None l = absurd (false≢true l)
there (Some x) l = (x, refl)

-- A changed value is there exactly if the value was.
pub mapped_some : {X Y : Type 0} (f : X → Y) (o : Option X) → is_some (option_map f o) ≡ is_some o
mapped_some f None = refl
mapped_some f (Some x) = refl

-- A number is another, or it is not.
pub same_or_not : (q k : ℕ) → (q ≡ k) ⊎ (nat_eq q k ≡ false)
same_or_not q k = elim (cases_Bool (nat_eq q k)) [ inl e ↦ inl (eqb-true q k e) | inr e ↦ inr e ]

-- Each number is itself.
pub itself : (k : ℕ) → nat_eq k k ≡ true
itself k = eq-eqb k k refl

-- A number that differs from another has a key of its own.
pub told_apart : (q k : ℕ) → ¬ (q ≡ k) → nat_eq q k ≡ false
told_apart q k n = elim (same_or_not q k) [ inl e ↦ absurd (n e) | inr e ↦ e ]

-- Numbers told apart are not one.
pub not_same : (q k : ℕ) → nat_eq q k ≡ false → ¬ (q ≡ k)
not_same q k e s = false≢true (sym e ∙ eq-eqb q k s)

module _ {X : Type 0} (m : Map X) (k : ℕ) where
  -- The map with a value at k, at k.
  pub insert-here : (v : X) → map.get (map.insert m k v) k ≡ Some v
  insert-here v = map.get-insert nat_cmp_total m k v k ∙ ap (λ b. cond b (Some v) (map.get m k)) (unsigned_tied k k ∙ itself k)

  -- The map with a value at k, elsewhere.
  pub insert-other : (v : X) (q : ℕ) → nat_eq q k ≡ false → map.get (map.insert m k v) q ≡ map.get m q
  insert-other v q e = map.get-insert nat_cmp_total m k v q ∙ ap (λ b. cond b (Some v) (map.get m q)) (unsigned_tied q k ∙ e)

  -- The map without k, at k.
  pub remove-here : map.get (map.remove m k) k ≡ None
  remove-here = map.get-remove nat_cmp_total m k k ∙ ap (λ b. cond b None (map.get m k)) (unsigned_tied k k ∙ itself k)

  -- The map without k, elsewhere.
  pub remove-other : (q : ℕ) → nat_eq q k ≡ false → map.get (map.remove m k) q ≡ map.get m q
  remove-other q e = map.get-remove nat_cmp_total m k q ∙ ap (λ b. cond b None (map.get m q)) (unsigned_tied q k ∙ e)

module _ {X : Type 0} (g : X → X) (m : Map X) (k q : ℕ) where
  -- The value at q after the value at k was changed.
  abbrev changed : X → X
  changed x = cond (eq_by_cmp nat_cmp q k) (g x) x

  -- At k it is changed.
  at_key : (x : X) → q ≡ k → changed x ≡ g x
  at_key x s = ap (λ b. cond b (g x) x) (unsigned_tied q k ∙ eq-eqb q k s)

  -- Elsewhere it is not.
  off_key : (x : X) → nat_eq q k ≡ false → changed x ≡ x
  off_key x a = ap (λ b. cond b (g x) x) (unsigned_tied q k ∙ a)

  -- A value of a map changed at k was there before, or is the changed value.
  pub changed-was : (y : X) → map.get (change_at g m k) q ≡ Some y → (x : X) × (map.get m q ≡ Some x) × (((q ≡ k) × (y ≡ g x)) ⊎ (y ≡ x))
  changed-was y is = by (map.get m q) refl (sym (get-change_at g m k q) ∙ is) where
    by : (o : Option X) → map.get m q ≡ o → option_map changed o ≡ Some y → (x : X) × (map.get m q ≡ Some x) × (((q ≡ k) × (y ≡ g x)) ⊎ (y ≡ x))
    by None e d = absurd (none_some y d)
    by (Some x) e d = (
      x,
      e,
      elim (same_or_not q k) [
        | inl s ↦ inl (s, sym (some_same _ y d) ∙ at_key x s)
        | inr a ↦ inr (sym (some_same _ y d) ∙ off_key x a)
      ],
    )

  -- A change at k keeps whether q has a value.
  pub changed-live : is_some (map.get (change_at g m k) q) ≡ is_some (map.get m q)
  changed-live = ap is_some (get-change_at g m k q) ∙ by (map.get m q) where
    by : (o : Option X) → is_some (option_map changed o) ≡ is_some o
    by None = refl
    by (Some x) = refl
