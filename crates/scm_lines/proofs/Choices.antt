-- The parts of a reading of several parts.
use Rattle.std.proofs.Common.{◌≡◌, ◌⊎◌, ℕ, ◌≤◌, List, [], ◌∷◌, Bool, true, false, cond, length, Option, Some, None, refl, inl, inr, arith, option_and_then}
use Rattle.std.specs.Option.{option_map}
use Rattle.std.specs.Str.{bytes_eq}
use Rattle.std.proofs.lemmas.Slice.Eq.{bytes_eq-Decides}
use Rattle.std.proofs.lemmas.Grind.{common_steps}
use Rattle.scm_lines.specs.Words.{at_end}
use Rattle.scm_lines.specs.Payload.{at_most}
use Rattle.scm_lines.specs.Words.{◌>>=◌}

-- The outcome of a test.
pub chosen : {A : Type 0} (b : Bool) (x y z : A) → cond b x y ≡ z → ((b ≡ true) × (x ≡ z)) ⊎ ((b ≡ false) × (y ≡ z))
chosen true x y z e = inl (refl, e)
chosen false x y z e = inr (refl, e)

-- A value behind a test comes only if the test holds.
pub allowed : {A : Type 0} (b : Bool) (x : Option A) (y : A) → cond b x None ≡ Some y → (b ≡ true) × (x ≡ Some y)
allowed true x y e = (refl, e)
allowed false x y e = cc

-- A value that a test guards comes only if the test holds.
pub guarded : {A : Type 0} (b : Bool) (x y : A) → cond b (Some x) None ≡ Some y → (b ≡ true) × (x ≡ y)
guarded true x y e = (refl, cc)
guarded false x y e = cc

-- A chain of two readings gives a value only if both do.
pub bound : {A B : Type 0} (r : Option A) (f : A → Option B) (y : B) → (r >>= f) ≡ Some y → (x : A) × ((r ≡ Some x) × (f x ≡ Some y))
bound None f y e = cc
bound (Some x) f y e = (x, (refl, e))

-- The same of a chain the other way round.
pub chained : {A B : Type 0} (f : A → Option B) (r : Option A) (y : B) → option_and_then f r ≡ Some y → (x : A) × ((r ≡ Some x) × (f x ≡ Some y))
chained f None y e = cc
chained f (Some x) y e = (x, (refl, e))

-- A changed value comes of a value.
pub mapped : {A B : Type 0} (f : A → B) (r : Option A) (y : B) → option_map f r ≡ Some y → (x : A) × ((r ≡ Some x) × (f x ≡ y))
mapped f None y e = cc
mapped f (Some x) y e = (x, (refl, cc))

-- Words that compare equal are equal.
pub same_word : (word text : List ℕ) → bytes_eq word text ≡ true → word ≡ text
same_word word text h = (bytes_eq-Decides word text).0 h

-- A value at the end comes only where no word is left.
pub ended : {A : Type 0} (x y : A) (words : List (List ℕ)) → at_end x words ≡ Some y → (words ≡ []) × (x ≡ y)
ended x y [] e = (refl, cc)
ended x y (word ∷ words) e = cc

-- A list that a limit admits is within it.
pub few : (n : ℕ) (r : Option (List ℕ)) (y : List ℕ) → at_most n r ≡ Some y → (r ≡ Some y) × (length y ≤ n)
few n None y e = cc
few n (Some items) y e = grind (arith, common_steps)

-- A list within a limit is admitted.
pub at_most-few : (n : ℕ) (y : List ℕ) → length y ≤ n → at_most n (Some y) ≡ Some y
at_most-few n y h = grind (arith, common_steps)
