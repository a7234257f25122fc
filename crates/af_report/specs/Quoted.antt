-- How a name is written: no byte of it can leave its quotes. The definition that names no manual
-- page is of this project's profile (docs/PROFILE.md).
use Rattle.std.specs.Prelude.{ℕ, ◌≡◌, ◌≢◌, ◌≤◌, ◌<◌, true, List}
use Rattle.std.specs.List.{All, flat_map}
use Rattle.af_base.specs.Names.{is_name}
use Rattle.af_report.specs.Texts.{escaped}

-- A name, byte by byte.
abbrev pub quoted : List ℕ → List ℕ
quoted name = flat_map escaped name

-- Printable ASCII, and none of `"`, `&` and `\`: what means nothing but itself between two quotes.
abbrev pub IsHarmless : ℕ → Type 0
IsHarmless b = (33 ≤ b) × (b ≤ 126) × (b ≢ 34) × (b ≢ 38) × (b ≢ 92)

-- Whatever bytes a name has, what is written of it is harmless.
abbrev pub StaysQuoted : Type 0
StaysQuoted = (name : List ℕ) → All (λ b. b < 256) name → All IsHarmless (quoted name)

-- A name that a socket can have is written as it is.
abbrev pub StaysAsItIs : Type 0
StaysAsItIs = (name : List ℕ) → is_name name ≡ true → quoted name ≡ name
