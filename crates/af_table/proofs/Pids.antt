-- The pids of all processes, from a sort of the keys that the hash map has.
use Rattle.std.proofs.Common.{◌≡◌, ℕ, List, [], ◌∷◌, ◌||◌, refl, sym, ap, subst, ◌∙◌, Bool, true, false, cond, map}
use Rattle.std.specs.Prelude.{Option, Some, None, is_some, unwrap_or, option_map, nat_eq}
use Rattle.std.specs.Ordering.{nat_cmp}
use Rattle.std.specs.Cmp.{nat_cmp_total, unsigned_tied, nat_eq_equiv}
use Rattle.std.specs.List.{list_any}
use Rattle.std.specs.List.Sorted.{IsPermutation, IsSorted, IsStrictlyIncreasing, IsStrictlySortedBy}
use Rattle.std.specs.Map.{lookup, keys_of}
use Rattle.std.specs.HashMap as hash
use Rattle.std.specs.HashMap.{HashMap}
use Rattle.std.specs.FinMap as finmap
use Rattle.std.specs.FinMap.{nat_cmp-IsAntisymmetric, get-from_entries, same_map}
use Rattle.std.proofs.lemmas.Bool.{eqb-true}
use Rattle.std.proofs.lemmas.List.Sorted.{IsNonDecreasingBy-from_sort, list_any-IsPermutation}
use Rattle.std.proofs.lemmas.Map.Keys.{IsDistinct-IsPermutation, IsStrictlyIncreasing-from_distinct, sorted_from_strictly_increasing}
use Rattle.af_base.specs.World.{Map}
use Rattle.af_base.specs.Refusals.{no_process}
use Rattle.af_base.proofs.Lookups.{mapped_some}
use Rattle.af_base.proofs.TreeEntries.{listed}
use Rattle.af_table.specs.Procs.{processes_of}
use Rattle.af_table.specs.Slots.{ProcessView}
use Rattle.af_table.proofs.Parts.{process_at_key}

module _ {Y : Type 0} where
  -- Numbers, each with a value.
  abbrev with_value : (ℕ → Y) → List ℕ → List (ℕ × Y)
  with_value d ks = map (λ k. (k, d k)) ks

  -- A number is found among these with its value, exactly if it is one of them.
  found : (d : ℕ → Y) (ks : List ℕ) (q : ℕ) → finmap.find nat_cmp q (with_value d ks) ≡ cond (list_any (nat_eq q) ks) (Some (d q)) None
  found d [] q = refl
  found d (k ∷ ks) q = (λ i. cond (unsigned_tied q k i) (Some (d k)) (found d ks q i)) ∙ by (nat_eq q k) refl where
    by : (b : Bool) → nat_eq q k ≡ b → cond b (Some (d k)) (cond (list_any (nat_eq q) ks) (Some (d q)) None) ≡ cond (b || list_any (nat_eq q) ks) (Some (d q)) None
    by true e = ap (λ j. Some (d j)) (sym (eqb-true q k e))
    by false e = refl

  -- The numbers of these pairs are the numbers.
  keys_back : (d : ℕ → Y) (ks : List ℕ) → map (λ e. e.0) (with_value d ks) ≡ ks
  keys_back d [] = refl
  keys_back d (k ∷ ks) = ap (λ js. k ∷ js) (keys_back d ks)

  -- A value that is there is itself.
  told : (o : Option Y) (y : Y) → cond (is_some o) (Some (unwrap_or o y)) None ≡ o
  told None y = refl
  told (Some x) y = refl

  -- Rising numbers that are the keys of a map are its keys in their order.
  pub keys_are : (m : Map Y) (y : Y) (ks : List ℕ) → IsStrictlyIncreasing ks → ((q : ℕ) → list_any (nat_eq q) ks ≡ finmap.contains_key m q) → ks ≡ finmap.keys m
  keys_are m y ks rising same =
      let d : ℕ → Y = λ k. unwrap_or (finmap.get m k) y in
      let is : finmap.from_entries (with_value d ks) ≡ m = same_map nat_cmp_total nat_cmp-IsAntisymmetric _ _ (λ q.
      get-from_entries nat_cmp_total (with_value d ks) q ∙ found d ks q ∙ ap (λ b. cond b (Some (d q)) None) (same q) ∙ told (finmap.get m q) y) in
      let entries = listed (with_value d ks) (subst (IsStrictlySortedBy nat_cmp) (sym (keys_back d ks)) (sorted_from_strictly_increasing ks rising)) in
      sym (ap finmap.keys (sym is) ∙ ap (map (λ e. e.0)) entries ∙ keys_back d ks)

-- A pid is found exactly if it is among the keys.
has_key : {X : Type 0} (es : List (ℕ × X)) (q : ℕ) → is_some (lookup (nat_eq q) es) ≡ list_any (nat_eq q) (keys_of es)
has_key [] q = refl
has_key (e ∷ es) q = by (nat_eq q e.0) (has_key es q) where
  by : (b : Bool) → is_some (lookup (nat_eq q) es) ≡ list_any (nat_eq q) (keys_of es) → is_some (cond b (Some e.1) (lookup (nat_eq q) es)) ≡ (b || list_any (nat_eq q) (keys_of es))
  by true rest = refl
  by false rest = rest

-- A sort of the keys of the hash map.
module _ {S : Type 0} (m : HashMap ℕ ProcessView S) (js ks : List ℕ) (unique : hash.IsUnique nat_eq m) (keys : hash.keys m ≡ js) (moved : IsPermutation js ks) (sorted : IsSorted nat_cmp ks) where
  -- The sorted list is a permutation of the keys.
  from_keys : IsPermutation (hash.keys m) ks
  from_keys = subst (λ l. IsPermutation l ks) (sym keys) moved

  -- Its pids rise.
  pub pids_rise : IsStrictlyIncreasing ks
  pids_rise = IsStrictlyIncreasing-from_distinct ks (IsNonDecreasingBy-from_sort (λ k. k) ks sorted) (IsDistinct-IsPermutation nat_eq nat_eq_equiv.symm (hash.keys m) ks from_keys unique)

  -- They are the pids of the processes, in order.
  pub pids_are : ks ≡ finmap.keys (processes_of m.entries)
  pids_are = keys_are (processes_of m.entries) no_process ks pids_rise (λ q.
      sym (list_any-IsPermutation (nat_eq q) (hash.keys m) ks from_keys) ∙ sym (ap is_some (process_at_key m q) ∙ mapped_some _ (hash.get nat_eq m q) ∙ has_key m.entries q))
