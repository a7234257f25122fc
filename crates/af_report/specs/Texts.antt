-- The bytes that a call appends to a text, and those that show a byte.
use Rattle.std.specs.Prelude.{◌≡◌, ℕ, ◌+◌, ◌/◌, ◌%◌, nat_lt, List, [], ◌∷◌, ◌++◌, String, string_bytes, if◌then◌else◌}
use Rattle.af_base.specs.Names.{is_name_byte}

-- The text is the old one with these bytes behind it.
abbrev pub AppendsText : {A : Type 0} → String A → String A → List ℕ → Type 0
AppendsText old new bytes = string_bytes new ≡ string_bytes old ++ bytes

-- The capital hexadecimal digit of a number below 16.
abbrev pub hex_digit : ℕ → ℕ
hex_digit d = if nat_lt d 10 then 48 + d else 55 + d

-- A byte as itself where names may have it, else % and its two hexadecimal digits.
abbrev pub escaped : ℕ → List ℕ
escaped b = if is_name_byte b then b ∷ [] else 37 ∷ hex_digit (b / 16) ∷ hex_digit (b % 16) ∷ []
