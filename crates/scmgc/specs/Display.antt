-- How lines and their answers are shown.
use Rattle.std.specs.Prelude.{ℕ, ◌+◌, ◌-◌, ◌==◌, ◌||◌, nat_lt, max, List, [], ◌∷◌, ◌++◌, length, map, replicate, Bool, false, if◌then◌else◌, Option, Some, None, codes, position}
use Rattle.std.specs.Fmt.{decimal}
use Rattle.scmgc.specs.declared.play.show.Style.{Style}
use Rattle.scmgc.specs.declared.play.show.Style.TheVariants as style

-- The number of a line, at the right of four columns, and two spaces.
abbrev pub number_text : ℕ → List ℕ
number_text n = replicate (4 - length (decimal n)) 32 ++ (decimal n ++ replicate 2 32)

-- A control character is shown as a space, and another byte as itself.
abbrev pub shown_byte : ℕ → ℕ
shown_byte b = if nat_lt b 32 || (b == 127) then 32 else b

-- The answer ends with its first line feed.
abbrev pub ends_at : List ℕ → Option ℕ → Bool
ends_at answer None = false
ends_at answer (Some i) = i + 1 == length answer

-- The answer is one line.
abbrev pub is_one_line : List ℕ → Bool
is_one_line answer = ends_at answer (position (λ b. b == 10) answer)

-- An answer of one line is beside the line that is shown, from column 40 on but two spaces behind
-- it at least; any other is below it.
abbrev pub beside : List ℕ → List ℕ → List ℕ
beside front answer =
    if is_one_line answer then front ++ (replicate (max (40 - length front) 2) 32 ++ answer)
    else front ++ 10 ∷ answer

-- The shown text of the line of this number. On a terminal that is the answer alone.
abbrev pub entry_text : Style → ℕ → List ℕ → List ℕ → List ℕ
entry_text style.Script n bytes answer = beside (number_text n ++ map shown_byte bytes) answer
entry_text style.Terminal n bytes answer = answer

-- The prompt before the line of this number.
abbrev pub prompt_text : Style → ℕ → List ℕ
prompt_text style.Script n = []
prompt_text style.Terminal n = decimal n ++ codes "> "
