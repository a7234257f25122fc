-- The process at an index of the hash map, and what a write there does.
use Rattle.std.proofs.Common.{◌≡◌, ℕ, suc, ◌+◌, ◌<◌, List, [], ◌∷◌, length, refl, sym, ap, subst, ◌∙◌, Bool, true, false, cond, arith, rules}
use Rattle.std.specs.Prelude.{Option, Some, None, IfSome, not, nat_eq, nat_lt, slice_get, position}
use Rattle.std.specs.List.{position_or_len}
use Rattle.std.specs.Option.{IsSome, option_map}
use Rattle.std.specs.Map.{keys_of}
use Rattle.std.specs.Cmp.{nat_eq_equiv}
use Rattle.std.specs.HashMap as hash
use Rattle.std.specs.HashMap.{HashMap}
use Rattle.std.specs.FinMap as map
use Rattle.std.proofs.lemmas.Bool.{eqb-true, ltb-true}
use Rattle.std.proofs.lemmas.Option.{slice_get-map}
use Rattle.std.proofs.lemmas.Map.Entries.{hash_map_get_place}
use Rattle.indexmap.specs.IndexMap.{with_value_at}
use Rattle.indexmap.proofs.CallerLemmas.{updates-with_value_at}
use Rattle.af_base.proofs.Lookups.{none_some}
use Rattle.af_table.specs.Slots.{ProcessView}
use Rattle.af_table.specs.Procs.{processes_of, rows_of}
use Rattle.af_table.proofs.Parts.{processes_there, rows_there, processes_inserted, rows_inserted}

-- The first key that is equal to this one is this one.
first_is : (ks : List ℕ) (pid : ℕ) → position_or_len (nat_eq pid) ks < length ks → slice_get ks (position_or_len (nat_eq pid) ks) ≡ Some pid
first_is [] pid h = absurd (omega arith)
first_is (k ∷ ks) pid h = by (nat_eq pid k) refl (first_is ks pid) h where
  by : (b : Bool) → nat_eq pid k ≡ b → (position_or_len (nat_eq pid) ks < length ks → slice_get ks (position_or_len (nat_eq pid) ks) ≡ Some pid)
      → cond (not b) (1 + position_or_len (nat_eq pid) ks) 0 < length (k ∷ ks) → slice_get (k ∷ ks) (cond (not b) (1 + position_or_len (nat_eq pid) ks) 0) ≡ Some pid
  by true e rest low = ap Some (sym (eqb-true pid k e))
  by false e rest low =
      let next : 1 + position_or_len (nat_eq pid) ks ≡ suc (position_or_len (nat_eq pid) ks) = omega arith in
      ap (slice_get (k ∷ ks)) next ∙ rest (omega arith)

-- A pid is at the position at which it is found.
pub position_is : (ks : List ℕ) (pid : ℕ) (o : Option ℕ) → o ≡ position (nat_eq pid) ks → IfSome o (λ i. slice_get ks i ≡ Some pid)
position_is ks pid o e = subst (λ r. IfSome r (λ i. slice_get ks i ≡ Some pid)) (sym e) (by (nat_lt (position_or_len (nat_eq pid) ks) (length ks)) refl) where
  by : (b : Bool) → nat_lt (position_or_len (nat_eq pid) ks) (length ks) ≡ b → IfSome (cond b (Some (position_or_len (nat_eq pid) ks)) None) (λ i. slice_get ks i ≡ Some pid)
  by true low = first_is ks pid (ltb-true _ _ low)
  by false high = tt

-- An index with a key has an entry.
pub entry_known : (es : List (ℕ × ProcessView)) (i k : ℕ) → slice_get (keys_of es) i ≡ Some k → IsSome (slice_get es i)
entry_known es i k there = by (slice_get es i) refl where
  by : (o : Option (ℕ × ProcessView)) → slice_get es i ≡ o → IsSome o
  by None e = absurd (none_some k (sym (ap (option_map (λ p. p.0)) e) ∙ sym (slice_get-map (λ p. p.0) es i) ∙ there))
  by (Some p) e = search rules

-- Keys that are found alike are equal.
same_some : (k l : ℕ) → Some k ≡ Some l → k ≡ l
same_some k l e = cc

module _ {S : Type 0} (m : HashMap ℕ ProcessView S) (index pid key : ℕ) (h : ProcessView) (there : slice_get (hash.keys m) index ≡ Some pid) (at : slice_get m.entries index ≡ Some (key, h)) where
  -- The pid there is this one.
  pub pid_there : key ≡ pid
  pid_there = same_some key pid (sym (slice_get-map (λ e. e.0) m.entries index ∙ ap (option_map (λ e. e.0)) at) ∙ there)

  module _ (unique : hash.IsUnique nat_eq m) where
    entry_there : slice_get m.entries index ≡ Some (pid, h)
    entry_there = at ∙ ap (λ k. Some (k, h)) pid_there

    pub process_there : Some h ≡ hash.get nat_eq m pid
    process_there = sym (hash_map_get_place nat_eq_equiv m index pid h unique entry_there)

    pub row_there : map.get (rows_of m.entries) pid ≡ Some h.row
    row_there = rows_there m pid h process_there

    pub is_there : map.get (processes_of m.entries) pid ≡ Some h.process
    is_there = processes_there m pid h process_there

    -- A process is written there.
    module _ (w : ProcessView) where
      written : hash.Updates nat_eq m (with_value_at m index w) pid (Some w)
      written = updates-with_value_at m index w nat_eq_equiv unique pid h entry_there

      -- It is at the pid then, and the others stay.
      pub processes_put : processes_of (with_value_at m index w).entries ≡ map.insert (processes_of m.entries) pid w.process
      processes_put = processes_inserted m (with_value_at m index w) pid w written

      pub rows_put : rows_of (with_value_at m index w).entries ≡ map.insert (rows_of m.entries) pid w.row
      rows_put = rows_inserted m (with_value_at m index w) pid w written
