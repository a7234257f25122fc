-- The finite map of a `BTreeMap`'s entries lists these very entries, since their keys rise.
use Rattle.std.proofs.Common.{◌≡◌, ℕ, List, [], ◌∷◌, length, ◌+◌, refl, sym, ap, ◌∙◌, arith}
use Rattle.std.specs.Ordering.{nat_cmp}
use Rattle.std.specs.declared.cmp.Ordering.TheVariants.{Less}
use Rattle.std.specs.Cmp.{nat_cmp_total}
use Rattle.std.specs.List.{AllByRecursion, sum_by}
use Rattle.std.specs.List.Sorted.{IsStrictlySortedBy}
use Rattle.std.specs.Map.{keys_of, values_of}
use Rattle.std.specs.FinMap as map
use Rattle.std.specs.FinMap.{entries-insert, len-entries}
use Rattle.std.specs.FinMap.Entries.{put, by_order}
use Rattle.std.specs.BTreeMap as tree
use Rattle.std.specs.BTreeMap.{BTreeMap}
use Rattle.std.proofs.lemmas.List.Sums.{sum_by-cons}
use Rattle.af_base.specs.Counts.{total_of}

-- A list of length 0 is empty.
none : {A : Type 0} (xs : List A) → length xs ≡ 0 → xs ≡ []
none [] e = refl
none (x ∷ xs) e = absurd (omega arith)

module _ {X : Type 0} where
  -- An entry whose key is below all others is put first.
  put_least : (k : ℕ) (v : X) (es : List (ℕ × X)) → AllByRecursion (λ y. nat_cmp k y ≡ Less) (keys_of es) → put nat_cmp k v es ≡ (k, v) ∷ es
  put_least k v [] h = refl
  put_least k v (e ∷ es) h = ap (λ o. by_order o ((k, v) ∷ e ∷ es) ((e.0, v) ∷ es) (e ∷ put nat_cmp k v es)) h.0

  -- A list whose keys rise is the entries of its map.
  pub listed : (es : List (ℕ × X)) → IsStrictlySortedBy nat_cmp (keys_of es) → map.entries (map.from_entries {R = nat_cmp} es) ≡ es
  unfolding IsStrictlySortedBy
  listed [] h = none _ (sym (len-entries (map.empty {X = X} {R = nat_cmp})) ∙ map.len-empty nat_cmp X)
  listed (e ∷ es) h = entries-insert nat_cmp_total (map.from_entries es) e.0 e.1 ∙ ap (put nat_cmp e.0 e.1) (listed es h.1) ∙ put_least e.0 e.1 es h.0

  -- The entries of the map are those of the tree.
  pub nat_entries : (m : BTreeMap ℕ X) → tree.IsOrdered nat_cmp m → map.entries (map.from_entries {R = nat_cmp} m.entries) ≡ m.entries
  nat_entries m h = listed m.entries h

  -- And it has as many.
  pub nat_len : (m : BTreeMap ℕ X) → tree.IsOrdered nat_cmp m → map.len (map.from_entries {R = nat_cmp} m.entries) ≡ tree.btree_map_len m
  nat_len m h = len-entries _ ∙ ap length (nat_entries m h)

  -- A sum over entries by their values is the sum over the values.
  sum_of_values : (f : X → ℕ) (es : List (ℕ × X)) → sum_by (λ e. f e.1) es ≡ sum_by f (values_of es)
  sum_of_values f [] = refl
  sum_of_values f (e ∷ es) = sum_by-cons (λ x. f x.1) e es ∙ ap (λ n. f e.1 + n) (sum_of_values f es) ∙ sym (sum_by-cons f e.1 (values_of es))

  -- The values of the map add up to the same as the tree's.
  pub nat_total : (f : X → ℕ) (m : BTreeMap ℕ X) → tree.IsOrdered nat_cmp m → total_of f (map.from_entries m.entries) ≡ sum_by f (tree.values m)
  nat_total f m h = ap (sum_by (λ e. f e.1)) (nat_entries m h) ∙ sum_of_values f m.entries

pub ruleset lists = (nat_entries, nat_len, nat_total)
