-- The text of a quoted name.
use Rattle.std.proofs.Common.{◌≡◌, ◌<◌, ◌/◌, ◌%◌, ℕ, suc, Bool, true, false, cond, List, [], ◌∷◌, refl, ap, arith}
use Rattle.std.specs.List.{All, list_all}
use Rattle.std.specs.Cmp.{first_so, second_so}
use Rattle.std.proofs.lemmas.Bool.Decides.{nat_tests}
use Rattle.std.proofs.lemmas.List.Elements.{All-append, All-cons, All-nil}
use Rattle.af_base.specs.Names.{is_name, is_name_byte}
use Rattle.af_report.specs.Texts.{escaped, hex_digit}
use Rattle.af_report.specs.Quoted.{IsHarmless, quoted}

-- A byte that names may have is harmless.
name_byte-harmless : (b : ℕ) → is_name_byte b ≡ true → IsHarmless b
name_byte-harmless b is = grind (arith, nat_tests)

-- So is a digit.
digit-harmless : (d : ℕ) → d < 16 → IsHarmless (hex_digit d)
digit-harmless d low = grind (arith, nat_tests)

-- So is the mark before two digits.
mark-harmless : IsHarmless 37
mark-harmless = (omega arith, omega arith, λ e. omega (arith, e), λ e. omega (arith, e), λ e. omega (arith, e))

-- So is all that is written of a byte.
byte-harmless : (b : ℕ) → b < 256 → All IsHarmless (escaped b)
byte-harmless b low = by (is_name_byte b) refl where
  by : (plain : Bool) → is_name_byte b ≡ plain → All IsHarmless (cond plain (b ∷ []) (37 ∷ hex_digit (b / 16) ∷ hex_digit (b % 16) ∷ []))
  by true is = All-cons IsHarmless b [] (name_byte-harmless b is) (All-nil IsHarmless)
  by false not = All-cons IsHarmless 37 (hex_digit (b / 16) ∷ hex_digit (b % 16) ∷ []) mark-harmless
      (All-cons IsHarmless (hex_digit (b / 16)) (hex_digit (b % 16) ∷ []) (digit-harmless (b / 16) (omega (arith, low))) (All-cons IsHarmless (hex_digit (b % 16)) [] (digit-harmless (b % 16) (omega arith)) (All-nil IsHarmless)))

-- So is all that is written of a name.
pub name-harmless : (name : List ℕ) → All (λ b. b < 256) name → All IsHarmless (quoted name)
name-harmless [] bytes = All-nil IsHarmless
name-harmless (b ∷ name) bytes = All-append IsHarmless (escaped b) (quoted name) (byte-harmless b (bytes 0 b (omega arith))) (name-harmless name (λ k d low. bytes (suc k) d (omega (arith, low))))

-- Bytes that names may have are written as they are.
name_bytes-kept : (name : List ℕ) → list_all is_name_byte name ≡ true → quoted name ≡ name
name_bytes-kept [] all = refl
name_bytes-kept (b ∷ name) all =
    rw (first_so (is_name_byte b) (list_all is_name_byte name) all) (ap (λ rest. b ∷ rest) (name_bytes-kept name (second_so (is_name_byte b) (list_all is_name_byte name) all)))

-- So is a name.
pub name-kept : (name : List ℕ) → is_name name ≡ true → quoted name ≡ name
name-kept name is = name_bytes-kept name (second_so _ (list_all is_name_byte name) is)
