-- The finite map of a hash map of names, and what a change of the hash map does to it.
use Rattle.std.proofs.Common.{◌≡◌, ℕ, Bool, true, false, List, [], ◌∷◌, refl, sym, ap, ◌∙◌, cond}
use Rattle.std.specs.Prelude.{Option, Some, None, nat_eq, map}
use Rattle.std.specs.Global.{Vec}
use Rattle.std.specs.Ordering.{eq_by_cmp, nat_cmp}
use Rattle.std.specs.Cmp.Lexicographic.{pointwise, slice_cmp, texts_ties, nat_list_cmp_total, nat_list_eq_equiv, bytes_decides}
use Rattle.std.specs.Map.{lookup, KeepsOthers}
use Rattle.std.specs.HashMap as hash
use Rattle.std.specs.HashMap.{HashMap}
use Rattle.std.specs.FinMap.{nat_cmp-IsAntisymmetric, slice_cmp-IsAntisymmetric, find, insert, remove, get, get-from_entries, get-insert, get-remove, same_map}
use Rattle.af_listen.specs.NamesView.{names_of}

-- Whether a key has these bytes.
abbrev has : List ℕ → Vec ℕ → Bool
has q k = pointwise nat_eq q k.items

-- Whether two keys have the same bytes.
abbrev alike : Vec ℕ → Vec ℕ → Bool
alike k = has k.items

-- A search by order and a look-up by equality find the same name.
found : (es : List (Vec ℕ × ℕ)) (q : List ℕ) → find (slice_cmp nat_cmp) q (map (λ e. (e.0.items, e.1)) es) ≡ lookup (has q) es
found [] q = refl
found (e ∷ es) q = λ i. cond (sym (texts_ties q e.0.items) i) (Some e.1) (found es q i)

-- A look-up of bytes is that of the key that has them.
looked : (es : List (Vec ℕ × ℕ)) (q : List ℕ) → get (names_of es) q ≡ lookup (has q) es
looked es q = get-from_entries nat_list_cmp_total _ q ∙ found es q

-- Names are tied where they are equal, either way round.
ties : (k q : List ℕ) → pointwise nat_eq k q ≡ eq_by_cmp (slice_cmp nat_cmp) q k
ties k q = nat_list_eq_equiv.symm k q ∙ texts_ties q k

-- The value at each name after a change at one.
changed : (es fs : List (Vec ℕ × ℕ)) (k : List ℕ) (w : Option ℕ) → lookup (has k) fs ≡ w → KeepsOthers alike (has k) es fs
    → (q : List ℕ) → get (names_of fs) q ≡ cond (eq_by_cmp (slice_cmp nat_cmp) q k) w (get (names_of es) q)
unfolding KeepsOthers
changed es fs k w at others q = looked fs q ∙ by (pointwise nat_eq k q) refl ∙ ap (λ b. cond b w (get (names_of es) q)) (ties k q)
  where
    by : (b : Bool) → pointwise nat_eq k q ≡ b → lookup (has q) fs ≡ cond (pointwise nat_eq k q) w (get (names_of es) q)
    by true p = ap (λ t. lookup (has t) fs) (sym ((bytes_decides k q).0 p)) ∙ at ∙ ap (λ b. cond b w (get (names_of es) q)) (sym p)
    by false p =
        others (has q) (λ x y. nat_list_eq_equiv.congr q x.items y.items) (λ x e. nat_list_eq_equiv.symm q x.items ∙ sym (nat_list_eq_equiv.congr k x.items q e) ∙ p)
        ∙ sym (looked es q) ∙ ap (λ b. cond b w (get (names_of es) q)) (sym p)

module _ {S : Type 0} where
  -- The map's look-up is the hash map's.
  pub name_looked : (m : HashMap (Vec ℕ) ℕ S) (q : List ℕ) → get (names_of m.entries) q ≡ hash.get_by (has q) m
  name_looked m q = looked m.entries q

  -- A name put into the hash map is put into the map.
  pub name_inserted : (m n : HashMap (Vec ℕ) ℕ S) (k : Vec ℕ) (v : ℕ) → hash.Updates alike m n k (Some v) → names_of n.entries ≡ insert (names_of m.entries) k.items v
  name_inserted m n k v h = same_map nat_list_cmp_total (slice_cmp-IsAntisymmetric nat_cmp-IsAntisymmetric) _ _ (λ q.
      changed m.entries n.entries k.items (Some v) h.1 h.3 q ∙ sym (get-insert nat_list_cmp_total (names_of m.entries) k.items v q))

  -- A name taken out of the hash map is taken out of the map.
  pub name_removed : (m n : HashMap (Vec ℕ) ℕ S) (k : List ℕ) → hash.UpdatesBy alike (has k) m n None → names_of n.entries ≡ remove (names_of m.entries) k
  name_removed m n k h = same_map nat_list_cmp_total (slice_cmp-IsAntisymmetric nat_cmp-IsAntisymmetric) _ _ (λ q.
      changed m.entries n.entries k None h.1 h.3 q ∙ sym (get-remove nat_list_cmp_total (names_of m.entries) k q))

-- The changes of a hash map of names, as changes of its map.
pub ruleset name_changes = (name_looked, name_inserted, name_removed)
