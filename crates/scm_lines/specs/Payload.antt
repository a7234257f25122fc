-- The bytes of a message, as a word spells them. This project's profile.
use Rattle.std.specs.Prelude.{ℕ, ◌+◌, ◌*◌, ◌-◌, ◌==◌, ◌&&◌, ◌||◌, nat_le, List, [], ◌∷◌, Bool, if◌then◌else◌, Option, Some, None, replicate, length, option_and_then}
use Rattle.std.specs.Option.{option_map}
use Rattle.scm_lines.specs.Numbers.{is_digit, word_number}

-- A letter, a digit, `_`, `-` or `.`.
abbrev pub is_plain : ℕ → Bool
is_plain b = is_digit b || (nat_le 65 b && nat_le b 90) || (nat_le 97 b && nat_le b 122)
    || (b == 95) || (b == 45) || (b == 46)

-- The value of a hexadecimal digit, in either case.
abbrev pub hex_value : ℕ → Option ℕ
hex_value b =
    if is_digit b then Some (b - 48)
    else if nat_le 65 b && nat_le b 70 then Some (b - 55)
    else if nat_le 97 b && nat_le b 102 then Some (b - 87)
    else None

-- The byte of two hexadecimal digits.
abbrev pub hex_pair : ℕ → ℕ → Option ℕ
hex_pair high low =
    option_and_then (λ h. option_map (λ l. 16 * h + l) (hex_value low)) (hex_value high)

-- A byte before the meaning of the rest.
abbrev pub byte_before : Option ℕ → Option (List ℕ) → Option (List ℕ)
byte_before None rest = None
byte_before (Some b) None = None
byte_before (Some b) (Some bytes) = Some (b ∷ bytes)

-- A plain character means itself.
abbrev pub plain_byte : ℕ → Option ℕ
plain_byte b = if is_plain b then Some b else None

-- The bytes of characters: plain ones, and % with two hexadecimal digits.
abbrev pub unescape : List ℕ → Option (List ℕ)
unescape [] = Some []
unescape (a ∷ []) = byte_before (plain_byte a) (Some [])
unescape (a ∷ b ∷ []) = byte_before (plain_byte a) (unescape (b ∷ []))
unescape (a ∷ b ∷ c ∷ rest) = if a == 37 then byte_before (hex_pair b c) (unescape rest)
    else byte_before (plain_byte a) (unescape (b ∷ c ∷ rest))

-- A list of at most n items.
abbrev pub at_most : ℕ → Option (List ℕ) → Option (List ℕ)
at_most n None = None
at_most n (Some items) = if nat_le (length items) n then Some items else None

-- The bytes of a word: n times the letter x for * and the number n, else those of its characters;
-- at most 65,537.
abbrev pub payload_of : List ℕ → Option (List ℕ)
payload_of [] = None
payload_of (a ∷ word) =
    if a == 42 then option_and_then
    (λ n. if nat_le n 65537 then Some (replicate n 120) else None) (word_number word)
    else at_most 65537 (unescape (a ∷ word))
