-- A row of slots under bits as a map.
use Rattle.std.proofs.Common.{◌≡◌, ℕ, ◌+◌, ◌<◌, ◌≤◌, Bool, true, false, true≢false, cond, zero, suc, drop, take, take_all, List, [], ◌∷◌, ◌++◌, length, refl, sym, ap, ◌∙◌, arith}
use Rattle.std.specs.Prelude.{Option, Some, None, IfNone, IfSome, Result, Ok, Err, OnOk, OnErr, is_some, unwrap_or, nat_eq, nat_lt, slice_get, slice_index_or, slice_set}
use Rattle.std.specs.List.{AppendsResults}
use Rattle.std.specs.Ordering.{nat_cmp}
use Rattle.std.specs.Cmp.{nat_cmp_total}
use Rattle.std.specs.FinMap as map
use Rattle.std.specs.FinMap.{get-empty, same_map, nat_cmp-IsAntisymmetric}
use Rattle.std.proofs.lemmas.Bool.{eqb-true, eqb-false, ltb-true, ltb-false}
use Rattle.std.proofs.lemmas.List.{get_or-drop, get_or-take, length-drop, length-take}
use Rattle.std.proofs.lemmas.Option.{slice_get-get_or}
use Rattle.af_base.proofs.Lookups.{told_apart, insert-here, insert-other, remove-here, remove-other}
use Rattle.af_table.specs.Bits.{is_taken}
use Rattle.af_table.specs.Rooms.{IsOpenFrom}
use Rattle.af_table.specs.Slots.{table_from, table_of, NoneFrom}
use Rattle.af_table.proofs.Blanks.{blank_at, blank_none, blank_cut, blank_installed, blank_taken_out}

-- Nothing where neither has something.
neither : (b : Bool) (o : Option ℕ) → o ≡ None → cond b o None ≡ None
neither true o e = e
neither false o e = refl

-- To remove an absent key changes nothing.
pub remove-none : {X : Type 0} (m : map.FinMap nat_cmp X) (k : ℕ) → map.get m k ≡ None → map.remove m k ≡ m
remove-none m k none = same_map nat_cmp_total nat_cmp-IsAntisymmetric _ _ (λ q. by q (nat_eq q k) refl) where
  by : (q : ℕ) (b : Bool) → nat_eq q k ≡ b → map.get (map.remove m k) q ≡ map.get m q
  by q true e = ap (map.get (map.remove m k)) (eqb-true q k e) ∙ remove-here m k ∙ sym (ap (map.get m) (eqb-true q k e) ∙ none)
  by q false e = remove-other m k q e

-- A slot that is set has the new file.
slice_get-set_same : (fs : List ℕ) (n f : ℕ) → n < length fs → slice_get (slice_set fs n f) n ≡ Some f
slice_get-set_same [] n f h = absurd (omega arith)
slice_get-set_same (x ∷ fs) zero f h = refl
slice_get-set_same (x ∷ fs) (suc n) f h = slice_get-set_same fs n f (omega arith)

-- Any other slot is as it was.
slice_get-set_other : (fs : List ℕ) (n q f : ℕ) → (q ≡ n → ⊥) → slice_get (slice_set fs n f) q ≡ slice_get fs q
slice_get-set_other [] n q f apart = refl
slice_get-set_other (x ∷ fs) zero zero f apart = absurd (apart refl)
slice_get-set_other (x ∷ fs) zero (suc q) f apart = refl
slice_get-set_other (x ∷ fs) (suc n) zero f apart = refl
slice_get-set_other (x ∷ fs) (suc n) (suc q) f apart = slice_get-set_other fs n q f (λ e. apart (ap suc e))

-- The first slots are as in the whole list.
slice_get-take : (m : ℕ) (fs : List ℕ) (q : ℕ) → q < m → slice_get (take m fs) q ≡ slice_get fs q
slice_get-take zero fs q h = absurd (omega arith)
slice_get-take (suc m) [] q h = refl
slice_get-take (suc m) (f ∷ fs) zero h = refl
slice_get-take (suc m) (f ∷ fs) (suc q) h = slice_get-take m fs q (omega arith)

-- Slots added behind leave those in front.
slice_get-append : (fs gs : List ℕ) (q : ℕ) → q < length fs → slice_get (fs ++ gs) q ≡ slice_get fs q
slice_get-append [] gs q h = absurd (omega arith)
slice_get-append (f ∷ fs) gs zero h = refl
slice_get-append (f ∷ fs) gs (suc q) h = slice_get-append fs gs q (omega arith)

module _ (ws : List ℕ) where
  -- No descriptor is below k.
  from_below : (fs : List ℕ) (k q : ℕ) → q < k → map.get (table_from ws k fs) q ≡ None
  unfolding table_from
  from_below [] k q h = get-empty nat_cmp q
  from_below (f ∷ fs) k q h = by (is_taken ws k) (from_below fs (k + 1) q (omega arith)) where
    by : (b : Bool) → map.get (table_from ws (k + 1) fs) q ≡ None → map.get (cond b (map.insert (table_from ws (k + 1) fs) k f) (table_from ws (k + 1) fs)) q ≡ None
    by true rest = insert-other (table_from ws (k + 1) fs) k f q (told_apart q k (λ e. omega arith)) ∙ rest
    by false rest = rest

  -- The file of descriptor k + i.
  from_at : (fs : List ℕ) (k i q : ℕ) → q ≡ k + i → map.get (table_from ws k fs) q ≡ cond (is_taken ws q) (slice_get fs i) None
  unfolding table_from
  from_at [] k i q e = get-empty nat_cmp q ∙ sym (neither (is_taken ws q) None refl)
  from_at (f ∷ fs) k zero q e =
      let same : q ≡ k = omega arith in
      ap (map.get (table_from ws k (f ∷ fs))) same ∙ by (is_taken ws k) (from_below fs (k + 1) k (omega arith)) ∙ ap (λ n. cond (is_taken ws n) (Some f) None) (sym same) where
        by : (b : Bool) → map.get (table_from ws (k + 1) fs) k ≡ None → map.get (cond b (map.insert (table_from ws (k + 1) fs) k f) (table_from ws (k + 1) fs)) k ≡ cond b (Some f) None
        by true rest = insert-here (table_from ws (k + 1) fs) k f
        by false rest = rest
  from_at (f ∷ fs) k (suc i) q e = by (is_taken ws k) ∙ from_at fs (k + 1) i q (omega arith) where
    by : (b : Bool) → map.get (cond b (map.insert (table_from ws (k + 1) fs) k f) (table_from ws (k + 1) fs)) q ≡ map.get (table_from ws (k + 1) fs) q
    by true = insert-other (table_from ws (k + 1) fs) k f q (told_apart q k (λ same. omega arith))
    by false = refl

  -- A number has its slot's file exactly if its bit is set.
  pub table_at : (fs : List ℕ) (q : ℕ) → map.get (table_of ws fs) q ≡ cond (is_taken ws q) (slice_get fs q) None
  unfolding table_of
  table_at fs q = from_at fs 0 q q (omega arith)

  -- A map with the same entries is the table.
  same_table : (fs : List ℕ) (m : map.FinMap nat_cmp ℕ) → ((q : ℕ) → cond (is_taken ws q) (slice_get fs q) None ≡ map.get m q) → table_of ws fs ≡ m
  same_table fs m h = same_map nat_cmp_total nat_cmp-IsAntisymmetric _ _ (λ q. table_at fs q ∙ h q)

  -- A descriptor whose bit is clear is free.
  pub table_clear : (fs : List ℕ) (q : ℕ) → is_taken ws q ≡ false → map.get (table_of ws fs) q ≡ None
  table_clear fs q none = table_at fs q ∙ ap (λ b. cond b (slice_get fs q) None) none

  -- And one whose bit is set for what its slot has.
  pub table_set : (fs : List ℕ) (q d : ℕ) → is_taken ws q ≡ true → q < length fs → map.get (table_of ws fs) q ≡ Some (slice_index_or fs q d)
  table_set fs q d some h = table_at fs q ∙ ap (λ b. cond b (slice_get fs q) None) some ∙ slice_get-get_or fs q d h

  -- So does each number of a run whose bits are set.
  pub run_there : (fs : List ℕ) (k n i : ℕ) → is_taken ws (k + i) ≡ true → i < length (take n (drop k fs)) → map.get (table_of ws fs) (k + i) ≡ slice_get (take n (drop k fs)) i
  run_there fs k n i some h =
      let len = length-take n (drop k fs) in
      let low : k + i < length fs = omega (arith, h, len, length-drop k fs) in
      table_set fs (k + i) 0 some low
      ∙ sym (slice_get-get_or (take n (drop k fs)) i 0 h ∙ ap Some (get_or-take n (drop k fs) i 0 (omega (arith, h, len)) ∙ get_or-drop k fs i 0))

  -- Up to the first number whose bit is clear, if there is one below the end, all bits are set.
  pub taken_until : (o : Option ℕ) (from end q : ℕ) → IfSome o (λ n. (r : ℕ) → from ≤ r → r < n → is_taken ws r ≡ true) → IfNone o ((r : ℕ) → from ≤ r → r < end → is_taken ws r ≡ true) → from ≤ q → q < unwrap_or o end → is_taken ws q ≡ true
  taken_until None from end q some none le lt = none q le lt
  taken_until (Some n) from end q some none le lt = some q le lt

  -- A bit is set below the row alone.
  pub taken_low : (n q : ℕ) → NoneFrom n ws → is_taken ws q ≡ true → q < n
  taken_low n q none some = by (nat_lt q n) refl where
    by : (b : Bool) → nat_lt q n ≡ b → q < n
    by true e = ltb-true q n e
    by false e = absurd (true≢false (sym some ∙ none q (ltb-false q n e)))

  -- The open descriptors.
  pub open_as_marked : (fs : List ℕ) (n q : ℕ) → n ≡ length fs → NoneFrom n ws → map.contains_key (table_of ws fs) q ≡ is_taken ws q
  open_as_marked fs n q len none = by (is_taken ws q) refl where
    by : (b : Bool) → is_taken ws q ≡ b → is_some (map.get (table_of ws fs) q) ≡ b
    by true e = ap is_some (table_set fs q 0 e (let low = taken_low n q none e in omega arith))
    by false e = ap is_some (table_clear fs q e)

  -- Removing a free descriptor changes nothing.
  pub none_there : (fs : List ℕ) (n : ℕ) → map.get (table_of ws fs) n ≡ None → table_of ws fs ≡ map.remove (table_of ws fs) n
  none_there fs n none = sym (remove-none (table_of ws fs) n none)

  -- Slots from n on say nothing where no bit is set from n on.
  pub same_below : (fs gs : List ℕ) (n : ℕ) → NoneFrom n ws → ((q : ℕ) → q < n → slice_get gs q ≡ slice_get fs q) → table_of ws gs ≡ table_of ws fs
  same_below fs gs n none same = same_table gs _ (λ q. by q (nat_lt q n) refl ∙ sym (table_at fs q)) where
    by : (q : ℕ) (b : Bool) → nat_lt q n ≡ b → cond (is_taken ws q) (slice_get gs q) None ≡ cond (is_taken ws q) (slice_get fs q) None
    by q true e = ap (λ o. cond (is_taken ws q) o None) (same q (ltb-true q n e))
    by q false e = ap (λ b. cond b (slice_get gs q) None) (none q (ltb-false q n e)) ∙ sym (ap (λ b. cond b (slice_get fs q) None) (none q (ltb-false q n e)))

  -- More slots.
  pub resized : (fs gs more : List ℕ) (m n : ℕ) → m ≡ length fs → NoneFrom m ws → m ≤ n → gs ≡ take n fs ++ more → table_of ws gs ≡ table_of ws fs
  resized fs gs more m n len none le e =
      same_below fs gs m none (λ q low. ap (λ l. slice_get l q) (e ∙ ap (λ l. l ++ more) (take_all n fs (omega arith))) ∙ slice_get-append fs more q (omega arith))

  -- As many more as there was memory for.
  pub filled : {F E : Type 0} (step : F → ℕ → F → Type 0) (f : F) (fs gs : List ℕ) (m n : ℕ) (r : Result (Unit {0}) E) → m ≡ length fs → NoneFrom m ws → m ≤ n
      → OnOk r (AppendsResults step (take n fs) gs f) → OnErr r (gs ≡ fs) → table_of ws gs ≡ table_of ws fs
  filled step f fs gs m n (Ok u) len none le ok err = resized fs gs ok.0 m n len none le ok.2
  filled step f fs gs m n (Err e) len none le ok err = ap (table_of ws) err

  -- Fewer.
  pub cut : (fs gs : List ℕ) (n : ℕ) → NoneFrom n ws → gs ≡ take n fs → table_of ws gs ≡ table_of ws fs
  cut fs gs n none e = same_below fs gs n none (λ q low. ap (λ l. slice_get l q) e ∙ slice_get-take n fs q low)

  -- None.
  pub no_slots : (fs : List ℕ) → fs ≡ [] → table_of ws fs ≡ map.empty
  no_slots fs e = same_table fs map.empty (λ q. ap (λ l. cond (is_taken ws q) (slice_get l q) None) e ∙ neither (is_taken ws q) None refl ∙ sym (get-empty nat_cmp q))

-- A number taken into use.
pub installed : (ws vs fs : List ℕ) (n f : ℕ) → n < length fs → ((q : ℕ) → is_taken vs q ≡ cond (nat_eq q n) true (is_taken ws q)) → table_of vs (slice_set fs n f) ≡ map.insert (table_of ws fs) n f
installed ws vs fs n f h bits = same_table vs _ _ (λ q. by q (nat_eq q n) refl) where
  by : (q : ℕ) (b : Bool) → nat_eq q n ≡ b → cond (is_taken vs q) (slice_get (slice_set fs n f) q) None ≡ map.get (map.insert (table_of ws fs) n f) q
  by q true e =
      let marked : is_taken vs q ≡ true = bits q ∙ ap (λ b. cond b true (is_taken ws q)) e in
      let same = eqb-true q n e in
      ap (λ b. cond b (slice_get (slice_set fs n f) q) None) marked ∙ ap (slice_get (slice_set fs n f)) same ∙ slice_get-set_same fs n f h
      ∙ sym (ap (map.get (map.insert (table_of ws fs) n f)) same ∙ insert-here (table_of ws fs) n f)
  by q false e =
      let kept : is_taken vs q ≡ is_taken ws q = bits q ∙ ap (λ b. cond b true (is_taken ws q)) e in
      ap (λ b. cond b (slice_get (slice_set fs n f) q) None) kept ∙ ap (λ o. cond (is_taken ws q) o None) (slice_get-set_other fs n q f (eqb-false q n e)) ∙ sym (insert-other (table_of ws fs) n f q e ∙ table_at ws fs q)

-- And out of it.
pub taken_out : (ws vs fs : List ℕ) (n f : ℕ) → ((q : ℕ) → is_taken vs q ≡ cond (nat_eq q n) false (is_taken ws q)) → table_of vs (slice_set fs n f) ≡ map.remove (table_of ws fs) n
taken_out ws vs fs n f bits = same_table vs _ _ (λ q. by q (nat_eq q n) refl) where
  by : (q : ℕ) (b : Bool) → nat_eq q n ≡ b → cond (is_taken vs q) (slice_get (slice_set fs n f) q) None ≡ map.get (map.remove (table_of ws fs) n) q
  by q true e =
      let clear : is_taken vs q ≡ false = bits q ∙ ap (λ b. cond b false (is_taken ws q)) e in
      ap (λ b. cond b (slice_get (slice_set fs n f) q) None) clear ∙ sym (ap (map.get (map.remove (table_of ws fs) n)) (eqb-true q n e) ∙ remove-here (table_of ws fs) n)
  by q false e =
      let kept : is_taken vs q ≡ is_taken ws q = bits q ∙ ap (λ b. cond b false (is_taken ws q)) e in
      ap (λ b. cond b (slice_get (slice_set fs n f) q) None) kept ∙ ap (λ o. cond (is_taken ws q) o None) (slice_get-set_other fs n q f (eqb-false q n e)) ∙ sym (remove-other (table_of ws fs) n q e ∙ table_at ws fs q)

-- The file of a descriptor, by its slot and its bit.
pub ruleset table_reads = (table_clear, table_set, taken_low, blank_at)

-- A descriptor is taken into use.
pub ruleset table_installs = (installed, blank_installed)

-- And freed.
pub ruleset table_frees = (none_there, taken_out, blank_taken_out)

-- Slots come and go where no bit is set.
pub ruleset table_cuts = (resized, cut, no_slots, blank_none, blank_cut)

-- Each open descriptor is below the row, and so are those below it.
pub room_below : (ws fs : List ℕ) (row n : ℕ) → row ≡ length fs → NoneFrom row ws → IsOpenFrom (table_of ws fs) n → n < row
room_below ws fs row n len none held =
    let taken = sym (open_as_marked ws fs row held.0 len none) ∙ held.2 in
    let low = taken_low ws row held.0 none taken in
    omega (arith, low, held.1)
