-- Look-ups and changes of values under keys.
use Rattle.std.proofs.Common.{◌≡◌, ℕ, ◌+◌, ◌-◌, ◌<◌, Bool, true, false, ◌||◌, cond, List, [], ◌∷◌, ◌++◌, length, zero, suc, refl, sym, ap, subst, ◌∙◌, arith}
use Rattle.std.specs.Prelude.{Option, Some, None, nat_eq, is_some, count_by, slice_index_or}
use Rattle.std.specs.Option.{option_map, option_map_or}
use Rattle.std.specs.List.{list_any}
use Rattle.std.specs.Ordering.{eq_by_cmp, nat_cmp}
use Rattle.std.specs.Cmp.{nat_cmp_total, unsigned_tied, nat_eq_equiv}
use Rattle.std.specs.FinMap as map
use Rattle.std.specs.FinMap.{get-insert, get-remove, get-empty, same_map, nat_cmp-IsAntisymmetric}
use Rattle.slab.specs.Slab as slab
use Rattle.slab.specs.Slab.{Slab}
use Rattle.std.proofs.lemmas.Bool.{eqb-true, eqb-false, eq-eqb}
use Rattle.std.proofs.lemmas.List.{get_or-set_same, get_or-set_other}
use Rattle.std.proofs.lemmas.List.Sums.{sum_by-set}
use Rattle.af_base.specs.World.{Map}
use Rattle.af_base.proofs.Lookups.{none_some, some_is, some_same, remove-here}
use Rattle.ordered_slab.specs.declared.numbered_value.NumberedValue.{NumberedValue}
use Rattle.ordered_slab.specs.OrderView.{OrderRowView}
use Rattle.ordered_slab.specs.Rows.{HasRow, AreListed}
use Rattle.ordered_slab.proofs.Rows.{in_left, in_right}
use Rattle.ordered_slab.specs.SlabValues.{keys_from, keys_of, value_at, value_of, values_from, values_of, AreInPlace}

module _ {V : Type 0} where
  -- Two maps that have the same at each number.
  same : (m n : Map V) → ((q : ℕ) → map.get m q ≡ map.get n q) → m ≡ n
  same m n h = same_map nat_cmp_total nat_cmp-IsAntisymmetric m n h

  -- The value at an optional key.
  abbrev under : Slab (NumberedValue V) → Option ℕ → Option V
  under s o = option_map_or (value_at s) o None

  -- Among the values of some numbers, each of these has its own, and no other number has one.
  from_at : (m : Map ℕ) (qs : List ℕ) (s : Slab (NumberedValue V)) (q : ℕ) → map.get (values_from m qs s) q ≡ cond (list_any (eq_by_cmp nat_cmp q) qs) (value_of m s q) None
  from_at m [] s q = get-empty nat_cmp q
  from_at m (x ∷ xs) s q = by (from_at m xs s q) (value_of m s x) refl where
    rest : Option V
    rest = cond (list_any (eq_by_cmp nat_cmp q) xs) (value_of m s q) None

    here : (b : Bool) → eq_by_cmp nat_cmp q x ≡ b → (o : Option V) → value_of m s x ≡ o → cond b o rest ≡ cond (b || list_any (eq_by_cmp nat_cmp q) xs) (value_of m s q) None
    here true e o is = sym is ∙ ap (value_of m s) (sym (eqb-true q x (sym (unsigned_tied q x) ∙ e)))
    here false e o is = refl

    none : (b : Bool) → eq_by_cmp nat_cmp q x ≡ b → value_of m s x ≡ None → rest ≡ cond b None rest
    none true e is = by_any (list_any (eq_by_cmp nat_cmp q) xs) where
      gone : value_of m s q ≡ None
      gone = ap (value_of m s) (eqb-true q x (sym (unsigned_tied q x) ∙ e)) ∙ is

      by_any : (c : Bool) → cond c (value_of m s q) None ≡ None
      by_any true = gone
      by_any false = refl
    none false e is = refl

    by : map.get (values_from m xs s) q ≡ rest → (o : Option V) → value_of m s x ≡ o → map.get (option_map_or (map.insert (values_from m xs s) x) o (values_from m xs s)) q ≡ cond (list_any (eq_by_cmp nat_cmp q) (x ∷ xs)) (value_of m s q) None
    by others None is = others ∙ none (eq_by_cmp nat_cmp q x) refl is ∙ here (eq_by_cmp nat_cmp q x) refl None is
    by others (Some v) is = get-insert nat_cmp_total (values_from m xs s) x v q ∙ ap (cond (eq_by_cmp nat_cmp q x) (Some v)) others ∙ here (eq_by_cmp nat_cmp q x) refl (Some v) is

  -- The value of a number is the value at its key.
  pub looked : (m : Map ℕ) (s : Slab (NumberedValue V)) (q : ℕ) → map.get (values_of m s) q ≡ value_of m s q
  unfolding values_of
  looked m s q = from_at m (map.keys m) s q ∙ ap (λ b. cond b (value_of m s q) None) (sym (map.contains_key-keys m q)) ∙ by (map.get m q) where
    by : (o : Option ℕ) → cond (is_some o) (under s o) None ≡ under s o
    by None = refl
    by (Some k) = refl

  -- No number, no value.
  pub no_values : (m : Map ℕ) (s : Slab (NumberedValue V)) → m ≡ map.empty → values_of m s ≡ map.empty
  no_values m s e = same _ _ (λ q. looked m s q ∙ ap (under s) (ap (λ m. map.get m q) e ∙ get-empty nat_cmp q) ∙ sym (get-empty nat_cmp q))

  -- Room alone changes no value.
  pub values_grown : (m : Map ℕ) (s t : Slab (NumberedValue V)) → t.slots ≡ s.slots → values_of m t ≡ values_of m s
  values_grown m s t ss = same _ _ (λ q. looked m t q ∙ by (map.get m q) ∙ sym (looked m s q)) where
    by : (o : Option ℕ) → under t o ≡ under s o
    by None = refl
    by (Some k) = ap (λ xs. option_map (λ x. x.value) (slice_index_or xs k None)) ss

  -- And leaves all in place.
  pub grown_in_place : (m : Map ℕ) (s t : Slab (NumberedValue V)) → t.slots ≡ s.slots → AreInPlace m s → AreInPlace m t
  grown_in_place m s t ss h = record {
    kept = λ q k at. ap (λ xs. option_map (λ x. x.file) (slice_index_or xs k None)) ss ∙ h.kept q k at;
    found = λ k x at. h.found k x (ap (λ xs. slice_index_or xs k None) (sym ss) ∙ at);
    many = ap map.len (values_grown m s t ss) ∙ h.many ∙ ap (count_by is_some) (sym ss);
  }

  -- An empty slab has all in place.
  pub none_in_place : (m : Map ℕ) (s : Slab (NumberedValue V)) → m ≡ map.empty → s.slots ≡ [] → AreInPlace m s
  none_in_place m s e ss = record {
    kept = λ q k at. absurd (none_some k (sym (ap (λ m. map.get m q) e ∙ get-empty nat_cmp q) ∙ at));
    found = λ k x at. absurd (none_some x (sym (ap (λ xs. slice_index_or xs k None) ss) ∙ at));
    many = ap map.len (no_values m s e) ∙ map.len-empty nat_cmp V ∙ ap (count_by is_some) (sym ss);
  }

module _ {V : Type 0} (m : Map ℕ) (s : Slab (NumberedValue V)) (h : AreInPlace m s) where
  -- A number's key is not empty.
  pub missing : (q k : ℕ) → map.get m q ≡ Some k → slab.get s k ≡ None → ⊥
  missing q k at none = none_some q (sym (ap (option_map (λ x. x.file)) none) ∙ h.kept q k at)

  -- The slab has an entry at the key of each number.
  pub keyed : (q k : ℕ) → map.get m q ≡ Some k → slab.ContainsKey s k
  keyed q k at = by (slab.get s k) refl where
    by : (o : Option (NumberedValue V)) → slab.get s k ≡ o → slab.ContainsKey s k
    by None p = absurd (missing q k at p)
    by (Some x) p = some_is _ x p

  -- No two numbers have one key.
  own : (f key : ℕ) → map.get m f ≡ Some key → (q k : ℕ) → (f ≡ q → ⊥) → map.get m q ≡ Some k → k ≡ key → ⊥
  own f key was q k apart at e = apart (some_same f q (sym (h.kept f key was) ∙ ap (λ j. option_map (λ x. x.file) (slab.get s j)) (sym e) ∙ h.kept q k at))

  -- No number has an empty key.
  empty : (f key : ℕ) → slab.get s key ≡ None → (q k : ℕ) → (f ≡ q → ⊥) → map.get m q ≡ Some k → k ≡ key → ⊥
  empty f key vacant q k _ at e = missing q k at (ap (slab.get s) e ∙ vacant)

  -- The number at a key is that key's.
  pub hinted : (f key : ℕ) (x : NumberedValue V) → slab.get s key ≡ Some x → x.file ≡ f → Some key ≡ map.get m f
  hinted f key x at e = sym (h.found key x at) ∙ ap (map.get m) e

  -- And so it has this key.
  pub stood : (f key : ℕ) → option_map (λ x. x.file) (slab.get s key) ≡ Some f → map.get m f ≡ Some key
  stood f key here = by (slab.get s key) refl here where
    by : (o : Option (NumberedValue V)) → slab.get s key ≡ o → option_map (λ x. x.file) o ≡ Some f → map.get m f ≡ Some key
    by None at none = absurd (none_some f none)
    by (Some x) at is = sym (hinted f key x at (some_same x.file f is))

module _ {V : Type 0} where
  -- A map with a value put in at f has it there, and elsewhere what it had.
  with_value : (m : Map V) (f : ℕ) (v : V) (q : ℕ) → cond (nat_eq f q) (Some v) (map.get m q) ≡ map.get (map.insert m f v) q
  with_value m f v q = ap (λ b. cond b (Some v) (map.get m q)) (nat_eq_equiv.symm f q ∙ sym (unsigned_tied q f)) ∙ sym (get-insert nat_cmp_total m f v q)

  -- A map without f has nothing at f, and elsewhere what it had.
  without_value : (m : Map V) (f : ℕ) (q : ℕ) → cond (nat_eq f q) None (map.get m q) ≡ map.get (map.remove m f) q
  without_value m f q = ap (λ b. cond b None (map.get m q)) (nat_eq_equiv.symm f q ∙ sym (unsigned_tied q f)) ∙ sym (get-remove nat_cmp_total m f q)

-- The keys of the numbers in slots, the first of which has this key.
module _ {V : Type 0} where
  -- A number with a key is that of the entry there.
  listed_entry : (key : ℕ) (xs : List (Option (NumberedValue V))) (q k : ℕ) → map.get (keys_from key xs) q ≡ Some k
      → (i : ℕ) × (k ≡ key + i) × (option_map (λ x. x.file) (slice_index_or xs i None) ≡ Some q)
  listed_entry key [] q k e = absurd (none_some k (sym (get-empty nat_cmp q) ∙ e))
  listed_entry key (None ∷ xs) q k e = let x = listed_entry (key + 1) xs q k e in (suc x.0, omega (arith, x.1), x.2)
  listed_entry key (Some entry ∷ xs) q k e = by (listed_entry (key + 1) xs q k) (nat_eq entry.file q) refl where
    by : (map.get (keys_from (key + 1) xs) q ≡ Some k → (i : ℕ) × (k ≡ key + 1 + i) × (option_map (λ x. x.file) (slice_index_or xs i None) ≡ Some q)) → (b : Bool) → nat_eq entry.file q ≡ b
        → (i : ℕ) × (k ≡ key + i) × (option_map (λ x. x.file) (slice_index_or (Some entry ∷ xs) i None) ≡ Some q)
    by more true f = (0, omega (arith, some_same k key (sym e ∙ sym (with_value (keys_from (key + 1) xs) entry.file key q) ∙ ap (λ b. cond b (Some key) (map.get (keys_from (key + 1) xs) q)) f)), ap Some (eqb-true entry.file q f))
    by more false f = let x = more (sym (ap (λ b. cond b (Some key) (map.get (keys_from (key + 1) xs) q)) f) ∙ with_value (keys_from (key + 1) xs) entry.file key q ∙ e) in (suc x.0, omega (arith, x.1), x.2)

  -- The number of each entry has a key.
  entry_listed : (key : ℕ) (xs : List (Option (NumberedValue V))) (q i : ℕ) → option_map (λ x. x.file) (slice_index_or xs i None) ≡ Some q → map.get (keys_from key xs) q ≡ None → ⊥
  entry_listed key [] q i e none = none_some q e
  entry_listed key (None ∷ xs) q zero e none = none_some q e
  entry_listed key (None ∷ xs) q (suc i) e none = entry_listed (key + 1) xs q i e none
  entry_listed key (Some entry ∷ xs) q i e none = by i e (entry_listed (key + 1) xs q) (nat_eq entry.file q) refl where
    by : (i : ℕ) → option_map (λ x. x.file) (slice_index_or (Some entry ∷ xs) i None) ≡ Some q
        → ((i : ℕ) → option_map (λ x. x.file) (slice_index_or xs i None) ≡ Some q → map.get (keys_from (key + 1) xs) q ≡ None → ⊥) → (b : Bool) → nat_eq entry.file q ≡ b → ⊥
    by i e more true f = none_some key (sym none ∙ sym (with_value (keys_from (key + 1) xs) entry.file key q) ∙ ap (λ b. cond b (Some key) (map.get (keys_from (key + 1) xs) q)) f)
    by zero e more false f = eqb-false entry.file q f (some_same entry.file q e)
    by (suc i) e more false f = more i e (sym (ap (λ b. cond b (Some key) (map.get (keys_from (key + 1) xs) q)) f) ∙ with_value (keys_from (key + 1) xs) entry.file key q ∙ none)

  -- Room alone changes no key.
  pub keys_grown : (s t : Slab (NumberedValue V)) → t.slots ≡ s.slots → keys_of t ≡ keys_of s
  unfolding keys_of
  keys_grown s t ss = ap (keys_from 0) ss

  -- No entry, no key.
  pub no_keys : (s : Slab (NumberedValue V)) → s.slots ≡ [] → keys_of s ≡ map.empty
  unfolding keys_of
  no_keys s ss = ap (keys_from 0) ss

  -- Where all is in place, the numbers have the keys of their entries.
  pub keys_are : (m : Map ℕ) (s : Slab (NumberedValue V)) → AreInPlace m s → m ≡ keys_of s
  unfolding keys_of
  keys_are m s h = same m _ (λ q. by q (map.get m q) refl (map.get (keys_from 0 s.slots) q) refl) where
    by : (q : ℕ) (o : Option ℕ) → map.get m q ≡ o → (p : Option ℕ) → map.get (keys_from 0 s.slots) q ≡ p → map.get m q ≡ map.get (keys_from 0 s.slots) q
    by q None e None f = e ∙ sym f
    by q (Some k) e None f = absurd (entry_listed 0 s.slots q k (h.kept q k e) f)
    by q o e (Some k) f =
        let x = listed_entry 0 s.slots q k f in
        let is : k ≡ x.0 = omega (arith, x.1) in
        stood m s h q k (ap (λ i. option_map (λ x. x.file) (slice_index_or s.slots i None)) is ∙ x.2) ∙ sym f

-- The numbers change at f alone, and the slab at a key that no other number has.
module _ {V : Type 0} (m n : Map ℕ) (s t : Slab (NumberedValue V)) (f key : ℕ) (w : Option ℕ) (x : Option (NumberedValue V))
    (keys : (q : ℕ) → map.get n q ≡ cond (nat_eq f q) w (map.get m q)) (slots : slab.Updates s t key x)
    (apart : (q k : ℕ) → (f ≡ q → ⊥) → map.get m q ≡ Some k → k ≡ key → ⊥) where
  -- Any other number has the key that it had.
  other_key : (q : ℕ) → nat_eq f q ≡ false → map.get n q ≡ map.get m q
  other_key q e = keys q ∙ ap (λ b. cond b w (map.get m q)) e

  -- The entry at the key of any other number is as before.
  other_entry : (q k : ℕ) → nat_eq f q ≡ false → map.get m q ≡ Some k → slab.get t k ≡ slab.get s k
  other_entry q k e at = slots.others k (apart q k (eqb-false f q e) at)

  -- The value of any other number is as before.
  other_value : (q : ℕ) → nat_eq f q ≡ false → (o : Option ℕ) → map.get m q ≡ o → under t o ≡ under s o
  other_value q e None at = refl
  other_value q e (Some k) at = ap (option_map (λ x. x.value)) (other_entry q k e at)

  -- So the values change at f alone.
  values_then : (q : ℕ) → map.get (values_of n t) q ≡ cond (nat_eq f q) (under t w) (map.get (values_of m s) q)
  values_then q = looked n t q ∙ by (nat_eq f q) refl where
    by : (b : Bool) → nat_eq f q ≡ b → under t (map.get n q) ≡ cond b (under t w) (map.get (values_of m s) q)
    by true e = ap (under t) (keys q ∙ ap (λ b. cond b w (map.get m q)) e)
    by false e = ap (under t) (other_key q e) ∙ other_value q e _ refl ∙ sym (looked m s q)

  -- And all are in place, if f is.
  in_place_then : AreInPlace m s → ((k : ℕ) → w ≡ Some k → option_map (λ x. x.file) (slab.get t k) ≡ Some f)
      → ((y : NumberedValue V) → x ≡ Some y → (y.file ≡ f) × (w ≡ Some key)) → ((k : ℕ) → map.get m f ≡ Some k → k ≡ key)
      → map.len (values_of n t) ≡ slab.slab_len t → AreInPlace n t
  in_place_then h here there only many = record {
    kept = λ q k at. kept q k at (nat_eq f q) refl;
    found = λ k y at. found k y at (nat_eq k key) refl;
    many = many;
  } where
    kept : (q k : ℕ) → map.get n q ≡ Some k → (b : Bool) → nat_eq f q ≡ b → option_map (λ x. x.file) (slab.get t k) ≡ Some q
    kept q k at true e = here k (sym (keys q ∙ ap (λ b. cond b w (map.get m q)) e) ∙ at) ∙ ap Some (eqb-true f q e)
    kept q k at false e = let was = sym (other_key q e) ∙ at in ap (option_map (λ x. x.file)) (other_entry q k e was) ∙ h.kept q k was

    elsewhere : (k : ℕ) (y : NumberedValue V) → (k ≡ key → ⊥) → map.get m y.file ≡ Some k → (b : Bool) → nat_eq f y.file ≡ b → map.get n y.file ≡ Some k
    elsewhere k y far was true e = absurd (far (only k (ap (map.get m) (eqb-true f y.file e) ∙ was)))
    elsewhere k y far was false e = other_key y.file e ∙ was

    found : (k : ℕ) (y : NumberedValue V) → slab.get t k ≡ Some y → (b : Bool) → nat_eq k key ≡ b → map.get n y.file ≡ Some k
    found k y at true e =
        let same_key = eqb-true k key e in
        let is = there y (sym slots.changed ∙ ap (slab.get t) (sym same_key) ∙ at) in
        keys y.file ∙ ap (λ b. cond b w (map.get m y.file)) (eq-eqb f y.file (sym is.0)) ∙ is.1 ∙ ap Some (sym same_key)
    found k y at false e =
        let far = eqb-false k key e in
        elsewhere k y far (h.found k y (sym (slots.others k far) ∙ at)) (nat_eq f y.file) refl

-- A value more, in an empty key.
module _ {V : Type 0} (m n : Map ℕ) (s t : Slab (NumberedValue V)) (f key : ℕ) (x : NumberedValue V) (h : AreInPlace m s) (vacant : slab.get s key ≡ None)
    (inserts : n ≡ map.insert m f key) (new : map.get m f ≡ None) (writes : slab.Updates s t key (Some x)) where
  -- The number has this key, and the others keep theirs.
  put_keys : (q : ℕ) → map.get n q ≡ cond (nat_eq f q) (Some key) (map.get m q)
  put_keys q = ap (λ n. map.get n q) inserts ∙ sym (with_value m f key q)

  -- The number has this value, and the others keep theirs.
  pub put_values : values_of n t ≡ map.insert (values_of m s) f x.value
  put_values = same _ _ (λ q.
      values_then m n s t f key (Some key) (Some x) put_keys writes (empty m s h f key vacant) q
      ∙ ap (λ o. cond (nat_eq f q) (option_map (λ x. x.value) o) (map.get (values_of m s) q)) writes.changed ∙ with_value (values_of m s) f x.value q)

  -- The number had no value before.
  pub put_new : map.contains_key (values_of m s) f ≡ false
  put_new = ap is_some (looked m s f ∙ ap (under s) new)

  -- All are in place, if the entry has this number and the slab has one entry more.
  pub put_in_place : x.file ≡ f → slab.slab_len t ≡ slab.slab_len s + 1 → AreInPlace n t
  put_in_place ino more = in_place_then m n s t f key (Some key) (Some x) put_keys writes (empty m s h f key vacant) h
      (λ k is. ap (λ j. option_map (λ x. x.file) (slab.get t j)) (sym (some_same key k is)) ∙ ap (option_map (λ x. x.file)) writes.changed ∙ ap Some ino)
      (λ y is. (ap (λ x. x.file) (sym (some_same x y is)) ∙ ino, refl))
      (λ k was. absurd (none_some k (sym new ∙ was)))
      (ap map.len put_values ∙ map.len-insert nat_cmp_total (values_of m s) f x.value ∙ ap (λ b. cond b (map.len (values_of m s)) (map.len (values_of m s) + 1)) put_new ∙ ap (λ l. l + 1) h.many ∙ sym more)

-- A value less.
module _ {V : Type 0} (m n : Map ℕ) (s t : Slab (NumberedValue V)) (f key : ℕ) (h : AreInPlace m s)
    (removes : n ≡ map.remove m f) (was : map.get m f ≡ Some key) (writes : slab.Updates s t key None) where
  -- The number has no key, and the others keep theirs.
  take_keys : (q : ℕ) → map.get n q ≡ cond (nat_eq f q) None (map.get m q)
  take_keys q = ap (λ n. map.get n q) removes ∙ sym (without_value m f q)

  -- The number has no value, and the others keep theirs.
  pub take_values : values_of n t ≡ map.remove (values_of m s) f
  take_values = same _ _ (λ q. values_then m n s t f key None None take_keys writes (own m s h f key was) q ∙ without_value (values_of m s) f q)

  -- The number had a value before.
  was_there : map.contains_key (values_of m s) f ≡ true
  was_there = ap is_some (looked m s f ∙ ap (under s) was) ∙ by (slab.get s key) refl where
    by : (o : Option (NumberedValue V)) → slab.get s key ≡ o → is_some (option_map (λ x. x.value) o) ≡ true
    by None none = absurd (missing m s h f key was none)
    by (Some x) at = refl

  -- All are in place, if the slab has one entry less.
  pub take_in_place : slab.slab_len t + 1 ≡ slab.slab_len s → AreInPlace n t
  take_in_place less = in_place_then m n s t f key None None take_keys writes (own m s h f key was) h
      (λ k is. absurd (none_some k is)) (λ y is. absurd (none_some y is)) (λ k at. some_same k key (sym at ∙ was))
      (ap map.len take_values ∙ map.len-remove nat_cmp_total (values_of m s) f ∙ ap (λ b. cond b (map.len (values_of m s) - 1) (map.len (values_of m s))) was_there ∙ (let all = h.many in omega (arith, less)))

-- The same by the keys of the entries.
module _ {V : Type 0} (s t : Slab (NumberedValue V)) (f key : ℕ) (h : AreInPlace (keys_of s) s) where
  -- A value was added, and one row at the end of the order with it.
  module _ (x : NumberedValue V) (vacant : slab.get s key ≡ None) (new : map.get (keys_of s) f ≡ None) (writes : slab.Updates s t key (Some x)) (number : x.file ≡ f) (more : slab.slab_len t ≡ slab.slab_len s + 1) where
    -- The number has this key.
    came : map.insert (keys_of s) f key ≡ keys_of t
    came = keys_are (map.insert (keys_of s) f key) t (put_in_place (keys_of s) (map.insert (keys_of s) f key) s t f key x h vacant refl new writes number more)

    -- All are in place.
    pub came_place : AreInPlace (keys_of t) t
    came_place = subst (λ m. AreInPlace m t) came (put_in_place (keys_of s) (map.insert (keys_of s) f key) s t f key x h vacant refl new writes number more)

    -- The number has this value.
    pub came_values : values_of (keys_of t) t ≡ map.insert (values_of (keys_of s) s) f x.value
    came_values = ap (λ m. values_of m t) (sym came) ∙ put_values (keys_of s) (map.insert (keys_of s) f key) s t f key x h vacant refl new writes

    -- Each number has its row.
    pub came_listed : (rows : List OrderRowView) → AreListed rows (keys_of s) → AreListed (rows ++ record { ino = f; key = key } ∷ []) (keys_of t)
    came_listed rows listed q k at = by (nat_eq f q) refl where
      by : (b : Bool) → nat_eq f q ≡ b → HasRow (rows ++ record { ino = f; key = key } ∷ []) q k
      by true e =
          let same_key = some_same key k (ap (λ b. cond b (Some key) (map.get (keys_of s) q)) (sym e) ∙ with_value (keys_of s) f key q ∙ ap (λ m. map.get m q) came ∙ at) in
          in_right rows (record { ino = f; key = key } ∷ []) q k (0, omega arith, (λ i. record { ino = eqb-true f q e i; key = same_key i }))
      by false e = in_left rows (record { ino = f; key = key } ∷ []) q k (listed q k (ap (λ b. cond b (Some key) (map.get (keys_of s) q)) (sym e) ∙ with_value (keys_of s) f key q ∙ ap (λ m. map.get m q) came ∙ at))

  -- A value was removed.
  module _ (was : map.get (keys_of s) f ≡ Some key) (writes : slab.Updates s t key None) (less : slab.slab_len t + 1 ≡ slab.slab_len s) where
    -- The number has no key.
    went : map.remove (keys_of s) f ≡ keys_of t
    went = keys_are (map.remove (keys_of s) f) t (take_in_place (keys_of s) (map.remove (keys_of s) f) s t f key h refl was writes less)

    -- All are in place.
    pub went_place : AreInPlace (keys_of t) t
    went_place = subst (λ m. AreInPlace m t) went (take_in_place (keys_of s) (map.remove (keys_of s) f) s t f key h refl was writes less)

    -- The number has no value.
    pub went_values : values_of (keys_of t) t ≡ map.remove (values_of (keys_of s) s) f
    went_values = ap (λ m. values_of m t) (sym went) ∙ take_values (keys_of s) (map.remove (keys_of s) f) s t f key h refl was writes

    -- It has no key.
    pub went_none : map.get (keys_of t) f ≡ None
    went_none = ap (λ m. map.get m f) (sym went) ∙ remove-here (keys_of s) f

    -- Each other number has the key that it had.
    pub went_had : (q k : ℕ) → map.get (keys_of t) q ≡ Some k → map.get (keys_of s) q ≡ Some k
    went_had q k at = by (nat_eq f q) refl where
      by : (b : Bool) → nat_eq f q ≡ b → map.get (keys_of s) q ≡ Some k
      by true e = absurd (none_some k (ap (λ b. cond b None (map.get (keys_of s) q)) (sym e) ∙ without_value (keys_of s) f q ∙ ap (λ m. map.get m q) went ∙ at))
      by false e = ap (λ b. cond b None (map.get (keys_of s) q)) (sym e) ∙ without_value (keys_of s) f q ∙ ap (λ m. map.get m q) went ∙ at

-- Nothing is removed.
pub take_nothing : {V : Type 0} (m : Map ℕ) (s : Slab (NumberedValue V)) (f : ℕ) → map.get m f ≡ None → values_of m s ≡ map.remove (values_of m s) f
take_nothing m s f none = same _ _ (λ q. by q (nat_eq f q) refl ∙ without_value (values_of m s) f q) where
  by : (q : ℕ) (b : Bool) → nat_eq f q ≡ b → map.get (values_of m s) q ≡ cond b None (map.get (values_of m s) q)
  by q true e = ap (map.get (values_of m s)) (sym (eqb-true f q e)) ∙ looked m s f ∙ ap (under s) none
  by q false e = refl

-- A slot with a value is within the list.
within : {X : Type 0} (xs : List (Option X)) (k : ℕ) (x : X) → slice_index_or xs k None ≡ Some x → k < length xs
within [] k x e = absurd (none_some x e)
within (y ∷ xs) zero x e = omega arith
within (y ∷ xs) (suc k) x e = let more = within xs k x e in omega arith

-- A value is changed in place.
module _ {V : Type 0} (m : Map ℕ) (s : Slab (NumberedValue V)) (f key : ℕ) (x y : NumberedValue V) (h : AreInPlace m s) (was : map.get m f ≡ Some key) (at : slab.get s key ≡ Some x) where
  -- The slab changes at this key alone.
  wrote : slab.Updates s (slab.with_value s key y) key (Some y)
  wrote = record {
    changed = get_or-set_same s.slots key (Some y) None (within s.slots key x at);
    others = λ other apart. get_or-set_other s.slots key other (Some y) None apart;
  }

  -- The number has this key already.
  stays : (q : ℕ) → map.get m q ≡ cond (nat_eq f q) (Some key) (map.get m q)
  stays q = by (nat_eq f q) refl where
    by : (b : Bool) → nat_eq f q ≡ b → map.get m q ≡ cond b (Some key) (map.get m q)
    by true e = sym (ap (map.get m) (eqb-true f q e)) ∙ was
    by false e = refl

  -- It has its number.
  pub there : map.get (values_of m s) f ≡ Some x.value
  there = looked m s f ∙ ap (under s) was ∙ ap (option_map (λ x. x.value)) at

  -- The number has the new value, and the others keep theirs.
  pub write_values : values_of m (slab.with_value s key y) ≡ map.insert (values_of m s) f y.value
  write_values = same _ _ (λ q.
      values_then m m s (slab.with_value s key y) f key (Some key) (Some y) stays wrote (own m s h f key was) q
      ∙ ap (λ o. cond (nat_eq f q) (option_map (λ x. x.value) o) (map.get (values_of m s) q)) wrote.changed ∙ with_value (values_of m s) f y.value q)

  -- There are as many values as before.
  pub write_len : slab.slab_len (slab.with_value s key y) ≡ slab.slab_len s
  write_len =
      let weight : Option (NumberedValue V) → ℕ = λ o. cond (is_some o) 1 0 in
      let one : weight (slice_index_or s.slots key None) ≡ 1 = ap weight at in
      let both = sum_by-set weight s.slots key (Some y) None (within s.slots key x at) in
      omega (arith, one, both)

  -- All are in place still, if the entry keeps its number.
  pub write_in_place : y.file ≡ x.file → AreInPlace m (slab.with_value s key y)
  write_in_place ino = in_place_then m m s (slab.with_value s key y) f key (Some key) (Some y) stays wrote (own m s h f key was) h
      (λ k is. ap (λ j. option_map (λ x. x.file) (slab.get (slab.with_value s key y) j)) (sym (some_same key k is)) ∙ ap (option_map (λ x. x.file)) wrote.changed ∙ ap Some number)
      (λ z is. (ap (λ x. x.file) (sym (some_same y z is)) ∙ number, refl)) (λ k also. some_same k key (sym also ∙ was)) (ap map.len write_values ∙ map.len-insert nat_cmp_total (values_of m s) f y.value
      ∙ ap (λ o. cond (is_some o) (map.len (values_of m s)) (map.len (values_of m s) + 1)) there ∙ h.many ∙ sym write_len) where
        number : y.file ≡ f
        number = ino ∙ some_same x.file f (sym (ap (option_map (λ x. x.file)) at) ∙ h.kept f key was)

-- A value that is written in place changes no key.
pub write_keys : {V : Type 0} (s : Slab (NumberedValue V)) (f key : ℕ) (x y : NumberedValue V) → AreInPlace (keys_of s) s → map.get (keys_of s) f ≡ Some key → slab.get s key ≡ Some x → y.file ≡ x.file
    → keys_of s ≡ keys_of (slab.with_value s key y)
write_keys s f key x y h was at ino = keys_are (keys_of s) (slab.with_value s key y) (write_in_place (keys_of s) s f key x y h was at ino)

-- Look-ups.
pub ruleset finds = (looked, missing, keyed, hinted, stood)

-- Values that come and go.
pub ruleset comes_and_goes = (looked, no_values, none_in_place, values_grown, grown_in_place, missing, keyed, put_values, put_in_place, put_new, take_values, take_in_place, take_nothing)
