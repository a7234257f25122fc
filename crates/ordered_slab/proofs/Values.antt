-- Values after one is written or removed.
use Rattle.std.proofs.Common.{◌≡◌, ◌≤◌, ℕ, ◌+◌, ◌-◌, Bool, true, false, refl, sym, ap, ◌∙◌, subst, cond, nat_eq, arith}
use Rattle.std.specs.Prelude.{Some, None, is_some}
use Rattle.std.specs.Cmp.{nat_cmp_total, unsigned_tied}
use Rattle.std.specs.FinMap as map
use Rattle.std.specs.FinMap.{get-insert, same_map, nat_cmp-IsAntisymmetric}
use Rattle.std.specs.Option.{option_map_or}
use Rattle.std.proofs.lemmas.Bool.{eqb-true}
use Rattle.af_base.specs.Changes.{change_at}
use Rattle.af_base.specs.World.{Map}

module _ {V : Type 0} (m : Map V) (f : ℕ) (x y : V) (at : map.get m f ≡ Some x) where
  -- The value of each number then.
  written : (q : ℕ) → map.get (map.insert m f y) q ≡ cond (nat_eq q f) (Some y) (map.get m q)
  written q = get-insert nat_cmp_total m f y q ∙ ap (λ b. cond b (Some y) (map.get m q)) (unsigned_tied q f)

  -- The value is what the change makes of it.
  pub lent_changed : (g : V → V) → y ≡ g x → map.insert m f y ≡ change_at g m f
  lent_changed g e = ap (map.insert m f) e ∙ ap (λ o. option_map_or (λ d. map.insert m f (g d)) o m) (sym at)

  -- A value that is as it was changes nothing.
  pub lent_same : y ≡ x → map.insert m f y ≡ m
  lent_same e = same_map nat_cmp_total nat_cmp-IsAntisymmetric _ _ (λ q. written q ∙ by q (nat_eq q f) refl) where
    by : (q : ℕ) (b : Bool) → nat_eq q f ≡ b → cond b (Some y) (map.get m q) ≡ map.get m q
    by q true is = ap Some e ∙ sym at ∙ ap (map.get m) (sym (eqb-true q f is))
    by q false is = refl

  -- There are as many values as before.
  pub lent_many : map.len (map.insert m f y) ≡ map.len m
  lent_many = map.len-insert nat_cmp_total m f y ∙ ap (λ o. cond (is_some o) (map.len m) (map.len m + 1)) at

  -- No number comes by it.
  pub lent_absent : (q : ℕ) → map.contains_key m q ≡ false → map.contains_key (map.insert m f y) q ≡ false
  lent_absent q none = ap is_some (written q) ∙ by (nat_eq q f) refl where
    by : (b : Bool) → nat_eq q f ≡ b → is_some (cond b (Some y) (map.get m q)) ≡ false
    by true is = sym (ap is_some at) ∙ ap (map.contains_key m) (sym (eqb-true q f is)) ∙ none
    by false is = none

-- There are at most as many values as before, once one is removed.
pub gone_few : {V : Type 0} (m : Map V) (f : ℕ) → map.len (map.remove m f) ≤ map.len m
gone_few m f = subst (λ n. n ≤ map.len m) (sym (map.len-remove nat_cmp_total m f)) (by (map.contains_key m f)) where
  by : (b : Bool) → cond b (map.len m - 1) (map.len m) ≤ map.len m
  by true = omega arith
  by false = omega arith

-- An unknown number lends nothing, and nothing changes.
pub lent_nothing : {V : Type 0} (m : Map V) (f : ℕ) (g : V → V) → map.get m f ≡ None → m ≡ change_at g m f
lent_nothing m f g none = ap (λ o. option_map_or (λ d. map.insert m f (g d)) o m) (sym none)

-- Values that are changed in place.
pub ruleset lent = (lent_changed, lent_same, lent_many, lent_absent, lent_nothing)
