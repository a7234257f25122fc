-- Numbers in decimal digits. This project's profile.
use Rattle.std.specs.Prelude.{ℕ, ◌+◌, ◌*◌, ◌-◌, ◌^◌, ◌==◌, ◌&&◌, nat_le, nat_lt, not, List, [], ◌∷◌, length, Bool, true, false, if◌then◌else◌, Option, Some, None}
use Rattle.scm_lines.specs.Words.{word_as}

-- A digit from 0 to 9.
abbrev pub is_digit : ℕ → Bool
is_digit b = nat_le 48 b && nat_le b 57

-- Digits and nothing else.
abbrev pub all_digits : List ℕ → Bool
all_digits [] = true
all_digits (b ∷ bytes) = is_digit b && all_digits bytes

-- The value of digits after a number.
abbrev pub value_on : ℕ → List ℕ → ℕ
value_on n [] = n
value_on n (b ∷ bytes) = value_on (n * 10 + (b - 48)) bytes

-- A 0 comes first, and something after it.
abbrev pub leads_with_zero : List ℕ → Bool
leads_with_zero [] = false
leads_with_zero (b ∷ []) = false
leads_with_zero (b ∷ c ∷ bytes) = b == 48

-- One to ten digits, with no leading 0.
abbrev pub is_numeral : List ℕ → Bool
is_numeral word = nat_lt 0 (length word) && nat_le (length word) 10 && all_digits word
    && not (leads_with_zero word)

-- The number of a word: a numeral below 2 ^ 32.
abbrev pub word_number : List ℕ → Option ℕ
word_number word =
    if is_numeral word && nat_lt (value_on 0 word) (2 ^ 32) then Some (value_on 0 word) else None

-- The first word as a number, and the words after it.
abbrev pub first_number : List (List ℕ) → Option (ℕ × List (List ℕ))
first_number words = word_as word_number words
