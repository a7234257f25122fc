-- The lines that only a script that is played has.
use Rattle.std.specs.Prelude.{ℕ, List, [], ◌∷◌, Option, codes, ⊤}
use Rattle.std.specs.Option.{option_and_then}
use Rattle.af_base.specs.World.{World}
use Rattle.af_report.specs.Graph.{IsGraph}
use Rattle.scm_lines.specs.Keywords.{meaning}
use Rattle.scm_lines.specs.Words.{only_of, words_of}
use Rattle.scmgc.specs.declared.play.own.Question.{Question}
use Rattle.scmgc.specs.declared.play.own.Question.TheVariants as question

-- The words that ask, each with its question.
abbrev pub questions : List (List ℕ × Question)
questions =
    (codes "who", question.Who) ∷ (codes "graph", question.Graph)
    ∷ (codes "help", question.Help) ∷ []

-- The question that a line asks: it has just one word.
abbrev pub question_of : List ℕ → Option Question
question_of bytes = option_and_then (meaning questions) (only_of (words_of bytes))

-- The text is the answer to a question about this world: a picture is that of the world.
abbrev pub IsAnswerTo : World → Question → List ℕ → Type 0
IsAnswerTo w question.Who text = ⊤
IsAnswerTo w question.Graph text = IsGraph w text
IsAnswerTo w question.Help text = ⊤
