-- The finite map of a `BTreeMap`'s entries, and how it changes with the tree.
use Rattle.std.proofs.Common.{◌≡◌, ℕ, List, [], ◌∷◌, refl, sym, ap, ◌∙◌, cond, Ordering}
use Rattle.std.specs.Prelude.{Some, None}
use Rattle.std.specs.Ordering.{eq_by_cmp, is_eq}
use Rattle.std.specs.declared.cmp.Ordering.TheVariants.{Less, Equal, Greater}
use Rattle.std.specs.Cmp.{IsTotalOrder, eq_by_cmp_equiv}
use Rattle.std.specs.Map.{lookup}
use Rattle.std.specs.BTreeMap as tree
use Rattle.std.specs.BTreeMap.{BTreeMap, is_at}
use Rattle.std.specs.Ordering.{nat_cmp}
use Rattle.std.specs.Cmp.{nat_cmp_total}
use Rattle.std.specs.Option.{option_map_or}
use Rattle.af_base.specs.Changes.{change_at}
use Rattle.std.specs.FinMap.{nat_cmp-IsAntisymmetric, FinMap, IsAntisymmetric, find, from_entries, insert, remove, get, get-from_entries, get-insert, get-remove, same_map}

-- A search by order and a look-up by equality find the same.
find_is : {K X : Type 0} (R : K → K → Ordering) (es : List (K × X)) (q : K) → find R q es ≡ lookup (is_at (R q)) es
find_is R [] q = refl
find_is R (e ∷ es) q = ap (cond (is_at (R q) e.0) (Some e.1)) (find_is R es q)

module _ {K X : Type 0} {R : K → K → Ordering} where
  module _ (o : IsTotalOrder R) where
    -- The tree's look-up is the map's.
    pub looked : (m : BTreeMap K X) (q : K) → get (from_entries {R = R} m.entries) q ≡ tree.get R m q
    looked m q = get-from_entries o m.entries q ∙ find_is R m.entries q

    module _ (same : IsAntisymmetric R) where
      pub inserted : (m n : BTreeMap K X) (k : K) (v : X) → tree.Updates R m n k (Some v) → from_entries {R = R} n.entries ≡ insert (from_entries m.entries) k v
      inserted m n k v h = same_map o same _ _ (λ q.
          looked n q ∙ h.0 q ∙ ap (λ b. cond b (Some v) (tree.get R m q)) ((eq_by_cmp_equiv o).symm k q)
          ∙ sym (get-insert o (from_entries m.entries) k v q ∙ ap (cond (eq_by_cmp R q k) (Some v)) (looked m q)))

      pub removed : (m n : BTreeMap K X) (k : K) → tree.Updates R m n k None → from_entries {R = R} n.entries ≡ remove (from_entries m.entries) k
      removed m n k h = same_map o same _ _ (λ q.
          looked n q ∙ h.0 q ∙ ap (λ b. cond b None (tree.get R m q)) ((eq_by_cmp_equiv o).symm k q)
          ∙ sym (get-remove o (from_entries m.entries) k q ∙ ap (cond (eq_by_cmp R q k) None) (looked m q)))

-- The same at numbers.
pub nat_looked : {X : Type 0} (m : BTreeMap ℕ X) (q : ℕ) → get (from_entries {R = nat_cmp} m.entries) q ≡ tree.get nat_cmp m q
nat_looked m q = looked nat_cmp_total m q

-- The entries of a tree after an insertion are those of the map after it.
pub nat_inserted : {X : Type 0} (m n : BTreeMap ℕ X) (k : ℕ) (v : X) → tree.Updates nat_cmp m n k (Some v) → from_entries {R = nat_cmp} n.entries ≡ insert (from_entries m.entries) k v
nat_inserted m n k v h = inserted nat_cmp_total nat_cmp-IsAntisymmetric m n k v h

-- The entries of a tree after a removal are those of the map after it.
pub nat_removed : {X : Type 0} (m n : BTreeMap ℕ X) (k : ℕ) → tree.Updates nat_cmp m n k None → from_entries {R = nat_cmp} n.entries ≡ remove (from_entries m.entries) k
nat_removed m n k h = removed nat_cmp_total nat_cmp-IsAntisymmetric m n k h

-- A change at a key that is there, as through `get_mut`.
pub nat_changed : {X : Type 0} (f : X → X) (m n : BTreeMap ℕ X) (k : ℕ) (x v : X) → Some x ≡ tree.get nat_cmp m k → v ≡ f x → tree.Updates nat_cmp m n k (Some v) → from_entries {R = nat_cmp} n.entries ≡ change_at f (from_entries m.entries) k
nat_changed f m n k x v was e h =
    nat_inserted m n k v h ∙ ap (insert (from_entries m.entries) k) e
    ∙ ap (λ o. option_map_or (λ y. insert (from_entries m.entries) k (f y)) o (from_entries m.entries)) (was ∙ sym (nat_looked m k))

-- No change where there is no key.
pub nat_unchanged : {X : Type 0} (f : X → X) (m : BTreeMap ℕ X) (k : ℕ) → tree.get nat_cmp m k ≡ None → from_entries {R = nat_cmp} m.entries ≡ change_at f (from_entries m.entries) k
nat_unchanged f m k was = ap (λ o. option_map_or (λ y. insert (from_entries m.entries) k (f y)) o (from_entries m.entries)) (sym (nat_looked m k ∙ was))

-- Inserting the present value changes nothing.
pub insert_same : {X : Type 0} (m : FinMap nat_cmp X) (k : ℕ) (v : X) → get m k ≡ Some v → insert m k v ≡ m
insert_same m k v is = same_map nat_cmp_total nat_cmp-IsAntisymmetric _ _ (λ q. get-insert nat_cmp_total m k v q ∙ put_back q (nat_cmp q k) refl) where
  put_back : (q : ℕ) (o : Ordering) → nat_cmp q k ≡ o → cond (is_eq o) (Some v) (get m q) ≡ get m q
  put_back q Equal p = sym is ∙ ap (get m) (sym (nat_cmp-IsAntisymmetric _ _ p))
  put_back q Less p = refl
  put_back q Greater p = refl

-- The changes of a tree, as changes of its map.
pub ruleset changes = (nat_looked, nat_inserted, nat_removed, nat_changed, nat_unchanged, insert_same)
