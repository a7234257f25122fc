-- The slots of free numbers stay blank as numbers are taken and freed.
use Rattle.std.proofs.Common.{◌≡◌, ℕ, Bool, true, false, true≢false, cond, zero, suc, take, List, [], ◌∷◌, ◌++◌, refl, sym, ap, ◌∙◌}
use Rattle.std.specs.Prelude.{Some, Result, Ok, Err, OnOk, OnErr, nat_eq, slice_get, slice_index_or, slice_set, unwrap_or}
use Rattle.std.specs.List.{AppendsResults, FoldsTo}
use Rattle.std.proofs.lemmas.Bool.{eqb-true, eqb-false}
use Rattle.std.proofs.lemmas.List.{get_or-set_other}
use Rattle.af_table.specs.Bits.{is_taken}
use Rattle.af_table.specs.Slots.{AreBlank}

-- Both ways to read a slot agree.
index_get : (fs : List ℕ) (q : ℕ) → slice_index_or fs q 0 ≡ unwrap_or (slice_get fs q) 0
index_get [] q = refl
index_get (x ∷ fs) zero = refl
index_get (x ∷ fs) (suc q) = index_get fs q

-- A free number has a blank slot.
pub blank_at : (ws fs : List ℕ) (q f : ℕ) → AreBlank ws fs → slice_get fs q ≡ Some f → is_taken ws q ≡ false → f ≡ 0
blank_at ws fs q f blank there free = sym (index_get fs q ∙ ap (λ o. unwrap_or o 0) there) ∙ blank q free

-- It holds where there are no slots.
pub blank_none : (ws fs : List ℕ) → fs ≡ [] → AreBlank ws fs
blank_none ws fs e = λ q free. ap (λ l. slice_index_or l q 0) e

-- A slot is blank among the first ones if it is in the whole list.
cut_blank : (n : ℕ) (fs : List ℕ) (q : ℕ) → slice_index_or fs q 0 ≡ 0 → slice_index_or (take n fs) q 0 ≡ 0
cut_blank zero fs q h = refl
cut_blank (suc n) [] q h = refl
cut_blank (suc n) (x ∷ fs) zero h = h
cut_blank (suc n) (x ∷ fs) (suc q) h = cut_blank n fs q h

-- It holds with fewer slots.
pub blank_cut : (ws fs gs : List ℕ) (n : ℕ) → AreBlank ws fs → gs ≡ take n fs → AreBlank ws gs
blank_cut ws fs gs n blank e = λ q free. ap (λ l. slice_index_or l q 0) e ∙ cut_blank n fs q (blank q free)

-- A slot that is made blank is blank.
set_blank : (fs : List ℕ) (n : ℕ) → slice_index_or (slice_set fs n 0) n 0 ≡ 0
set_blank [] n = refl
set_blank (x ∷ fs) zero = refl
set_blank (x ∷ fs) (suc n) = set_blank fs n

-- It holds after a number is taken.
pub blank_installed : (ws vs fs : List ℕ) (n f : ℕ) → AreBlank ws fs → ((q : ℕ) → is_taken vs q ≡ cond (nat_eq q n) true (is_taken ws q)) → AreBlank vs (slice_set fs n f)
blank_installed ws vs fs n f blank bits = λ q free. by q (nat_eq q n) refl free where
  by : (q : ℕ) (b : Bool) → nat_eq q n ≡ b → is_taken vs q ≡ false → slice_index_or (slice_set fs n f) q 0 ≡ 0
  by q true e free = absurd (true≢false (sym (bits q ∙ ap (λ b. cond b true (is_taken ws q)) e) ∙ free))
  by q false e free = get_or-set_other fs n q f 0 (eqb-false q n e) ∙ blank q (sym (bits q ∙ ap (λ b. cond b true (is_taken ws q)) e) ∙ free)

-- It holds after a number is freed, whose slot is made blank.
pub blank_taken_out : (ws vs fs : List ℕ) (n f : ℕ) → AreBlank ws fs → ((q : ℕ) → is_taken vs q ≡ cond (nat_eq q n) false (is_taken ws q)) → f ≡ 0 → AreBlank vs (slice_set fs n f)
blank_taken_out ws vs fs n f blank bits none = λ q free. ap (λ x. slice_index_or (slice_set fs n x) q 0) none ∙ by q (nat_eq q n) refl free where
  by : (q : ℕ) (b : Bool) → nat_eq q n ≡ b → is_taken vs q ≡ false → slice_index_or (slice_set fs n 0) q 0 ≡ 0
  by q true e free = ap (λ r. slice_index_or (slice_set fs n 0) r 0) (eqb-true q n e) ∙ set_blank fs n
  by q false e free = get_or-set_other fs n q 0 0 (eqb-false q n e) ∙ blank q (sym (bits q ∙ ap (λ b. cond b false (is_taken ws q)) e) ∙ free)

-- Blank slots added behind others change no answer.
appended : (fs more : List ℕ) → ((q : ℕ) → slice_index_or more q 0 ≡ 0) → (q : ℕ) → slice_index_or (fs ++ more) q 0 ≡ slice_index_or fs q 0
appended [] more h q = h q
appended (x ∷ fs) more h zero = refl
appended (x ∷ fs) more h (suc q) = appended fs more h q

module _ {F : Type 0} (step : F → ℕ → F → Type 0) (makes : (f : F) (x : ℕ) (g : F) → step f x g → x ≡ 0) where
  -- The results of a function that makes blank slots are blank.
  made_blank : (xs : List ℕ) (f g : F) → FoldsTo step f xs g → (q : ℕ) → slice_index_or xs q 0 ≡ 0
  made_blank [] f g h q = refl
  made_blank (x ∷ xs) f g h zero = makes f x h.0 h.1
  made_blank (x ∷ xs) f g h (suc q) = made_blank xs h.0 g h.2 q

  -- It holds with more slots that it made, and without memory for them.
  pub blank_filled : {E : Type 0} (ws fs gs : List ℕ) (n : ℕ) (f : F) (r : Result (Unit {0}) E) → AreBlank ws fs
      → OnOk r (AppendsResults step (take n fs) gs f) → OnErr r (gs ≡ fs) → AreBlank ws gs
  blank_filled ws fs gs n f (Ok u) blank ok err = λ q free. ap (λ l. slice_index_or l q 0) ok.2 ∙ appended (take n fs) ok.0 (made_blank ok.0 f ok.1 ok.3) q ∙ cut_blank n fs q (blank q free)
  blank_filled ws fs gs n f (Err e) blank ok err = λ q free. ap (λ l. slice_index_or l q 0) err ∙ blank q free
