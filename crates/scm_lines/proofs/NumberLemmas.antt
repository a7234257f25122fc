-- A numeral is the decimal digits of its number.
use Rattle.std.proofs.Common.{◌≡◌, ℕ, ◌+◌, ◌*◌, ◌-◌, ◌^◌, ◌<◌, ◌≤◌, ◌==◌, ◌&&◌, List, [], ◌∷◌, ◌++◌, true, false, length, Some, refl, sym, ap, ◌∙◌, arith, rules, subst, get_or, nat_lt, suc, zero}
use Rattle.std.specs.Fmt.{decimal}
use Rattle.std.proofs.lemmas.Fmt.{decimal_digit, decimal_nonempty, digits_decimal, digits_value-decimal, first_decimal, length-decimal-le, decimal-digits_value}
use Rattle.std.proofs.lemmas.Str.Parse.{IsNumeralModel, numerals_by_fold}
use Rattle.std.proofs.lemmas.Grind.{common_steps}
use Rattle.scm_lines.specs.Numbers.{all_digits, is_digit, is_numeral, leads_with_zero, word_number, value_on}
use Rattle.scm_lines.specs.Spelling.{IsNumber}
use Rattle.af_base.proofs.DerivedEquality.{both}
use Rattle.scm_lines.proofs.Choices.{guarded}

-- Digits with their value are the numerals of the library.
own : IsNumeralModel (λ ds. all_digits ds ≡ true) (value_on 0)
own = numerals_by_fold _ (search rules) value_on (search rules)

-- ---- a number that is read

-- A number that begins with 0 is that digit alone.
lone_zero : (word : List ℕ) → 0 < length word → leads_with_zero word ≡ false → get_or word 0 0 ≡ 48 → length word ≡ 1
lone_zero [] some lead first = absurd (omega arith)
lone_zero (b ∷ []) some lead first = refl
lone_zero (b ∷ c ∷ bytes) some lead first = ten_lead b first lead
  where
    ten_lead : (b : ℕ) → b ≡ 48 → (b == 48) ≡ false → length (b ∷ c ∷ bytes) ≡ 1
    ten_lead b same lead = absurd (grind (arith, common_steps))

-- A numeral has a digit, nothing but digits, and no leading zero.
numeral_parts : (word : List ℕ) → is_numeral word ≡ true → (0 < length word) × (all_digits word ≡ true) × (leads_with_zero word ≡ false)
numeral_parts word e = (grind (arith, common_steps), grind (arith, common_steps), grind (arith, common_steps))

-- A number that is read is spelt as one.
pub number_said : (word : List ℕ) (n : ℕ) → word_number word ≡ Some n → IsNumber word n
number_said word n e =
    let (test, same) = guarded (is_numeral word && nat_lt (value_on 0 word) (2 ^ 32)) (value_on 0 word) n e in
    let (numeral, small) = both (is_numeral word) (nat_lt (value_on 0 word) (2 ^ 32)) test in
    let (some, digits, lead) = numeral_parts word numeral in
    let below : value_on 0 word < 2 ^ 32 = grind (arith, common_steps) in
    let text : decimal (value_on 0 word) ≡ word = decimal-digits_value own word digits some (lone_zero word some lead) (omega arith) in
    (subst (λ (k : ℕ). k < 2 ^ 32) same below, sym text ∙ ap decimal same)

-- ---- a number that is said

-- A word that begins above 0 has no leading zero.
no_lead : (word : List ℕ) → 48 < get_or word 0 0 → leads_with_zero word ≡ false
no_lead [] h = refl
no_lead (b ∷ []) h = refl
no_lead (b ∷ c ∷ bytes) h = above b h
  where
    above : (b : ℕ) → 48 < b → (b == 48) ≡ false
    above b h = grind (arith, common_steps)

-- A decimal text has no leading zero.
decimal_lead : (n : ℕ) → n < 2 ^ 32 → leads_with_zero (decimal n) ≡ false
decimal_lead zero h = rw (decimal_digit 0 (omega arith)) refl
decimal_lead (suc n) h = no_lead (decimal (suc n)) (first_decimal (suc n) (omega arith) (omega arith))

-- A decimal text is a numeral.
decimal_numeral : (n : ℕ) → n < 2 ^ 32 → is_numeral (decimal n) ≡ true
decimal_numeral n h =
    let digits : all_digits (decimal n) ≡ true = digits_decimal own n (omega arith) in
    let lead = decimal_lead n h in
    let some : 0 < length (decimal n) = decimal_nonempty n (omega arith) in
    let few : length (decimal n) ≤ 10 = length-decimal-le 10 n (omega arith) (omega arith) (omega arith) in
    grind (arith, common_steps)

-- A number spelt as one is read so.
pub number_read : (word : List ℕ) (n : ℕ) → IsNumber word n → word_number word ≡ Some n
number_read word n (small, text) =
    let numeral = decimal_numeral n small in
    let value : value_on 0 (decimal n) ≡ n = digits_value-decimal own n (omega arith) in
    let below : nat_lt n (2 ^ 32) ≡ true = grind (arith, common_steps) in
    rw (text, numeral, value, below) refl

-- A number has nothing but digits.
pub number_digits : (word : List ℕ) (n : ℕ) → IsNumber word n → all_digits word ≡ true
number_digits word n (small, e) = subst (λ (w : List ℕ). all_digits w ≡ true) (sym e) (digits_decimal own n (omega arith))

-- ---- a number that is read in one pass

-- A digit more makes ten times the value, and the digit.
pub value_more : (n : ℕ) (front : List ℕ) (d : ℕ) → value_on n (front ++ d ∷ []) ≡ value_on n front * 10 + (d - 48)
value_more n [] d = refl
value_more n (b ∷ front) d = value_more (n * 10 + (b - 48)) front d

-- Digits with a digit more are digits.
pub digits_more : (front : List ℕ) (d : ℕ) → all_digits front ≡ true → is_digit d ≡ true → all_digits (front ++ d ∷ []) ≡ true
digits_more [] d digits one = rw one refl
digits_more (b ∷ front) d digits one =
    let (first, others) = both (is_digit b) (all_digits front) digits in
    rw first (digits_more front d others one)
