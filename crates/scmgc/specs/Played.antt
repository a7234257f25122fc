-- The effect of the lines of a played script.
use Rattle.std.specs.Prelude.{◌≡◌, ◌⊎◌, ℕ, ◌+◌, List, [], ◌∷◌, ◌++◌, Option, Some, None}
use Rattle.std.specs.Str.Lines.{lines}
use Rattle.std.specs.Io.KnownBytes.{Appends}
use Rattle.af_base.specs.World.{World}
use Rattle.scm_lines.specs.Versions.{read_in}
use Rattle.scm_run.specs.Script.{LineText, Point, first_point}
use Rattle.scmgc.specs.Questions.{IsAnswerTo, question_of}
use Rattle.scmgc.specs.Display.{entry_text, prompt_text}
use Rattle.scmgc.specs.declared.play.own.Question.{Question}
use Rattle.scmgc.specs.declared.play.show.Style.{Style}

-- The answer to a line that cannot be read: to the question that it asks, if it asks one.
abbrev pub IsTold : World → List ℕ → List ℕ → Type 0
IsTold w bytes answer = (question : Question) → question_of bytes ≡ Some question
    → IsAnswerTo w question answer

-- The line is done as in a run, with this text.
abbrev pub DoesLine : Point → List ℕ → List ℕ → Point → Type 0
DoesLine old bytes answer new = (events : ℕ) × LineText old bytes events answer new

-- The line cannot be read, and is answered; nothing changes.
abbrev pub TellsOf : Point → List ℕ → List ℕ → Point → Type 0
TellsOf old bytes answer new = (read_in old.version bytes ≡ None)
    × IsTold old.machine.world bytes answer × (new ≡ old)

-- The answer to a line at this point, and where it leads.
abbrev pub AnswersLine : Point → List ℕ → List ℕ → Point → Type 0
AnswersLine old bytes answer new = DoesLine old bytes answer new ⊎ TellsOf old bytes answer new

-- These lines, from the one of this number on, lead from old to new, and this is their shown text.
-- Some of them can be read at their place, and these are their answers.
abbrev pub PlayText : Style → ℕ → Point → List (List ℕ) → List (List ℕ) → List ℕ → List ℕ → Point
    → Type 0
PlayText style n old [] read replies text new = (read ≡ []) × (replies ≡ [])
    × (text ≡ prompt_text style n) × (new ≡ old)
PlayText style n old (bytes ∷ others) read replies text new =
    (mid : Point) × (answer more : List ℕ)
    × (text ≡ prompt_text style n ++ (entry_text style n bytes answer ++ more))
    × ((DoesLine old bytes answer mid × (later : List (List ℕ)) × (rest : List ℕ)
    × (read ≡ bytes ∷ later) × (replies ≡ answer ++ rest)
    × PlayText style (n + 1) mid others later rest more new)
    ⊎ (TellsOf old bytes answer mid × PlayText style (n + 1) mid others read replies more new))

-- The writer was given what is shown of the lines of this input, played from the first point on.
pub record Played (style : Style) (input : List ℕ) (before after : Option (List ℕ)) : Type 0 where
  pub read : List (List ℕ)
  pub replies : List ℕ
  pub text : List ℕ
  pub point : Point
  pub plays : PlayText style 1 first_point (lines input) read replies text point
  pub wrote : Appends before after text
