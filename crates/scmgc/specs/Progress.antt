-- One line of a script that is played.
use Rattle.std.specs.Prelude.{◌≡◌, ℕ, List, [], ◌∷◌, ◌++◌, Option, Some}
use Rattle.std.specs.Str.Lines.{lines}
use Rattle.std.specs.Io.KnownBytes.{Appends}
use Rattle.scm_run.specs.Script.{Point}
use Rattle.scmgc.specs.Played.{AnswersLine}
use Rattle.scmgc.specs.Display.{entry_text, prompt_text}
use Rattle.scmgc.specs.declared.play.show.Style.{Style}

-- The first line of this input was played, from old to new, and is shown; the reader has the rest
-- of the input.
pub record Goes (style : Style) (number : ℕ) (input : List ℕ) (left before after : Option (List ℕ))
    (old new : Point) : Type 0 where
  pub line : List ℕ
  pub rest : List ℕ
  pub answer : List ℕ
  pub cut : lines input ≡ line ∷ lines rest
  pub leaves : left ≡ Some rest
  pub answers : AnswersLine old line answer new
  pub wrote : Appends before after (prompt_text style number ++ entry_text style number line answer)

-- This input has no line, and the prompt for one is shown.
pub record IsOver (style : Style) (number : ℕ) (input : List ℕ)
    (left before after : Option (List ℕ)) : Type 0 where
  pub none : input ≡ []
  pub leaves : left ≡ Some []
  pub wrote : Appends before after (prompt_text style number)
