-- The parts of a hash map's entries as maps, and how they change with the hash map.
use Rattle.std.proofs.Common.{◌≡◌, ℕ, ◌+◌, List, [], ◌∷◌, length, refl, sym, ap, ◌∙◌, Bool, true, false, cond, arith}
use Rattle.std.specs.Prelude.{Option, Some, None, is_some, nat_eq}
use Rattle.std.specs.Ordering.{nat_cmp, eq_by_cmp}
use Rattle.std.specs.Cmp.{nat_cmp_total, unsigned_tied, nat_eq_equiv}
use Rattle.std.specs.List.{IsDistinct, AllByRecursion}
use Rattle.std.specs.Map.{lookup, keys_of}
use Rattle.std.specs.HashMap as hash
use Rattle.std.specs.HashMap.{HashMap}
use Rattle.std.specs.FinMap as map
use Rattle.std.specs.FinMap.{nat_cmp-IsAntisymmetric, get-empty, get-insert, get-remove, len-insert, len-empty, same_map}
use Rattle.std.specs.Option.{option_map}
use Rattle.af_base.specs.World.{Map}
use Rattle.af_base.specs.Listing.{keyed}
use Rattle.af_table.specs.Slots.{ProcessView}
use Rattle.af_table.specs.Procs.{processes_of, rows_of}
use Rattle.af_table.proofs.Tables.{remove-none}

-- One part of each entry, as a map.
abbrev part_of : {X Y : Type 0} → (X → Y) → List (ℕ × X) → Map Y
part_of f es = keyed (λ e. e.0) (λ e. f e.1) es

module _ {X Y : Type 0} (f : X → Y) where
  -- A part of a value that was put in is put in.
  mapped : (b : Bool) (v : X) (o : Option X) → option_map f (cond b (Some v) o) ≡ cond b (Some (f v)) (option_map f o)
  mapped true v o = refl
  mapped false v o = refl

  -- A part of a value that was taken out is taken out.
  without : (b : Bool) (o : Option X) → option_map f (cond b None o) ≡ cond b None (option_map f o)
  without true o = refl
  without false o = refl

  -- The part at a key is that of the entry with the key.
  part_at : (es : List (ℕ × X)) (q : ℕ) → map.get (part_of f es) q ≡ option_map f (lookup (nat_eq q) es)
  part_at [] q = get-empty nat_cmp q
  part_at (e ∷ es) q =
      get-insert nat_cmp_total (part_of f es) e.0 (f e.1) q ∙ (λ i. cond (unsigned_tied q e.0 i) (Some (f e.1)) (part_at es q i))
      ∙ sym (mapped (nat_eq q e.0) e.1 (lookup (nat_eq q) es))

  -- A key that no entry has finds nothing.
  not_among : (k : ℕ) (es : List (ℕ × X)) → AllByRecursion (λ y. nat_eq k y ≡ false) (keys_of es) → lookup (nat_eq k) es ≡ None
  not_among k [] h = refl
  not_among k (e ∷ es) h = ap (λ b. cond b (Some e.1) (lookup (nat_eq k) es)) h.0 ∙ not_among k es h.1

  -- There are as many parts as entries, where no key occurs twice.
  part_of_len : (es : List (ℕ × X)) → IsDistinct nat_eq (keys_of es) → map.len (part_of f es) ≡ length es
  unfolding IsDistinct
  part_of_len [] h = len-empty nat_cmp Y
  part_of_len (e ∷ es) h =
      let new : map.contains_key (part_of f es) e.0 ≡ false = ap is_some (part_at es e.0 ∙ ap (option_map f) (not_among e.0 es h.0)) in
      let rest = part_of_len es h.1 in
      len-insert nat_cmp_total (part_of f es) e.0 (f e.1) ∙ ap (λ b. cond b (map.len (part_of f es)) (map.len (part_of f es) + 1)) new ∙ ap (λ n. n + 1) rest ∙ omega arith

-- Two tests of equality agree.
tied : (k q : ℕ) → nat_eq k q ≡ eq_by_cmp nat_cmp q k
tied k q = nat_eq_equiv.symm k q ∙ sym (unsigned_tied q k)

module _ {X Y S : Type 0} (f : X → Y) where
  -- Taking a part commutes with putting in.
  part_inserted : (m n : HashMap ℕ X S) (k : ℕ) (v : X) → hash.Updates nat_eq m n k (Some v) → part_of f n.entries ≡ map.insert (part_of f m.entries) k (f v)
  part_inserted m n k v h = same_map nat_cmp_total nat_cmp-IsAntisymmetric _ _ (λ q.
      part_at f n.entries q ∙ ap (option_map f) (h.0 q) ∙ mapped f (nat_eq k q) v (hash.get nat_eq m q)
      ∙ (λ i. cond (tied k q i) (Some (f v)) (sym (part_at f m.entries q) i))
      ∙ sym (get-insert nat_cmp_total (part_of f m.entries) k (f v) q))

  -- It commutes with taking out.
  part_removed : (m n : HashMap ℕ X S) (k : ℕ) → hash.Updates nat_eq m n k None → part_of f n.entries ≡ map.remove (part_of f m.entries) k
  part_removed m n k h = same_map nat_cmp_total nat_cmp-IsAntisymmetric _ _ (λ q.
      part_at f n.entries q ∙ ap (option_map f) (h.0 q) ∙ without f (nat_eq k q) (hash.get nat_eq m q)
      ∙ (λ i. cond (tied k q i) None (sym (part_at f m.entries q) i))
      ∙ sym (get-remove nat_cmp_total (part_of f m.entries) k q))

module _ {S : Type 0} where
  -- The value at each pid.
  pub process_at_key : (m : HashMap ℕ ProcessView S) (q : ℕ) → map.get (processes_of m.entries) q ≡ option_map (λ h. h.process) (hash.get nat_eq m q)
  unfolding processes_of
  process_at_key m q = part_at (λ h. h.process) m.entries q

  -- A known pid has its entry's process.
  pub processes_there : (m : HashMap ℕ ProcessView S) (k : ℕ) (h : ProcessView) → Some h ≡ hash.get nat_eq m k → map.get (processes_of m.entries) k ≡ Some h.process
  unfolding processes_of
  processes_there m k h was = part_at (λ h. h.process) m.entries k ∙ ap (option_map (λ h. h.process)) (sym was)

  -- It has its entry's row.
  pub rows_there : (m : HashMap ℕ ProcessView S) (k : ℕ) (h : ProcessView) → Some h ≡ hash.get nat_eq m k → map.get (rows_of m.entries) k ≡ Some h.row
  unfolding rows_of
  rows_there m k h was = part_at (λ h. h.row) m.entries k ∙ ap (option_map (λ h. h.row)) (sym was)

  -- An unknown pid has no process.
  pub processes_none : (m : HashMap ℕ ProcessView S) (k : ℕ) → hash.get nat_eq m k ≡ None → map.get (processes_of m.entries) k ≡ None
  unfolding processes_of
  processes_none m k was = part_at (λ h. h.process) m.entries k ∙ ap (option_map (λ h. h.process)) was

  -- It has no row.
  pub rows_none : (m : HashMap ℕ ProcessView S) (k : ℕ) → hash.get nat_eq m k ≡ None → map.get (rows_of m.entries) k ≡ None
  unfolding rows_of
  rows_none m k was = part_at (λ h. h.row) m.entries k ∙ ap (option_map (λ h. h.row)) was

  -- An entry put in puts its process in.
  pub processes_inserted : (m n : HashMap ℕ ProcessView S) (k : ℕ) (v : ProcessView) → hash.Updates nat_eq m n k (Some v) → processes_of n.entries ≡ map.insert (processes_of m.entries) k v.process
  unfolding processes_of
  processes_inserted m n k v h = part_inserted (λ h. h.process) m n k v h

  -- It puts its row in.
  pub rows_inserted : (m n : HashMap ℕ ProcessView S) (k : ℕ) (v : ProcessView) → hash.Updates nat_eq m n k (Some v) → rows_of n.entries ≡ map.insert (rows_of m.entries) k v.row
  unfolding rows_of
  rows_inserted m n k v h = part_inserted (λ h. h.row) m n k v h

  -- An entry taken out takes its process out.
  pub processes_removed : (m n : HashMap ℕ ProcessView S) (k : ℕ) → hash.Updates nat_eq m n k None → processes_of n.entries ≡ map.remove (processes_of m.entries) k
  unfolding processes_of
  processes_removed m n k h = part_removed (λ h. h.process) m n k h

  -- It takes its row out.
  pub rows_removed : (m n : HashMap ℕ ProcessView S) (k : ℕ) → hash.Updates nat_eq m n k None → rows_of n.entries ≡ map.remove (rows_of m.entries) k
  unfolding rows_of
  rows_removed m n k h = part_removed (λ h. h.row) m n k h

  -- To remove an unknown pid changes no process.
  pub processes_absent : (m : HashMap ℕ ProcessView S) (k : ℕ) → hash.get nat_eq m k ≡ None → processes_of m.entries ≡ map.remove (processes_of m.entries) k
  processes_absent m k was = sym (remove-none (processes_of m.entries) k (processes_none m k was))

  -- It changes no row.
  pub rows_absent : (m : HashMap ℕ ProcessView S) (k : ℕ) → hash.get nat_eq m k ≡ None → rows_of m.entries ≡ map.remove (rows_of m.entries) k
  rows_absent m k was = sym (remove-none (rows_of m.entries) k (rows_none m k was))

  -- As many processes as entries.
  pub process_count : (m : HashMap ℕ ProcessView S) → hash.IsUnique nat_eq m → map.len (processes_of m.entries) ≡ hash.hash_map_len m
  unfolding processes_of
  process_count m h = part_of_len (λ h. h.process) m.entries h

-- No entries show no processes.
pub no_processes : (es : List (ℕ × ProcessView)) → es ≡ [] → processes_of es ≡ map.empty
unfolding processes_of
no_processes es e = ap (part_of (λ h. h.process)) e

-- No entries show no rows.
pub no_rows : (es : List (ℕ × ProcessView)) → es ≡ [] → rows_of es ≡ map.empty
unfolding rows_of
no_rows es e = ap (part_of (λ h. h.row)) e

pub ruleset part_changes = (processes_there, rows_there, processes_none, rows_none, processes_inserted, rows_inserted, processes_removed, rows_removed, no_processes, no_rows)

pub ruleset part_len = (process_count)
