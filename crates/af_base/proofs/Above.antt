-- The least key above a number, as the range of a `BTreeMap` from there on tells it.
use Rattle.std.proofs.Common.{rules, ◌≡◌, ℕ, false, List, sym, ap, subst, ◌∙◌}
use Rattle.std.specs.Prelude.{Option, Some, None, is_some, IsTrue}
use Rattle.std.specs.Ordering.{nat_cmp}
use Rattle.std.specs.FinMap as map
use Rattle.std.specs.BTreeMap as tree
use Rattle.std.specs.BTreeMap.{BTreeMap}
use Rattle.std.specs.BTreeMap.Range.{IsRangeOf}
use Rattle.std.specs.declared.ops.Bound.TheVariants.{Excluded, Unbounded}
use Rattle.af_base.proofs.Trees.{nat_looked}

-- An option that is some value is there.
is_there : {A : Type 0} (o : Option A) (a : A) → o ≡ Some a → IsTrue (is_some o)
is_there o a e = subst (λ o. IsTrue (is_some o)) (sym e) (search rules)

module _ {X : Type 0} (m : BTreeMap ℕ X) (r : List (ℕ × X)) (f : ℕ) (in_range : IsRangeOf nat_cmp (Excluded f) Unbounded m r) where
  -- A key that the tree does not find is not in its map.
  absent : (q : ℕ) → tree.get nat_cmp m q ≡ None → map.contains_key (map.from_entries {R = nat_cmp} m.entries) q ≡ false
  absent q none = ap is_some (nat_looked m q ∙ none)
