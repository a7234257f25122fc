-- The lines of a script, by the tables of forms. This project's profile.
use Rattle.std.specs.Prelude.{◌≡◌, ◌≤◌, ◌⊎◌, ℕ, List, [], ◌∷◌, length, true, false}
use Rattle.af_base.specs.declared.events.Step.{Step}
use Rattle.af_base.specs.declared.events.Event.TheVariants as event
use Rattle.scm_lines.specs.Words.{all_printable, is_comment, words_of}
use Rattle.scm_lines.specs.Spelling.{IsNumber}
use Rattle.scm_lines.specs.Forms.{SaysRow, line_row, verb_row}
use Rattle.scm_lines.specs.declared.line.Line.{Line}
use Rattle.scm_lines.specs.declared.line.Line.TheVariants as line
use Rattle.scm_lines.specs.declared.line.TheConstants.{MAX_LINE}

-- The words after a process's number that say this step.
abbrev pub SaysStep : List (List ℕ) → Step → Type 0
SaysStep [] does = ⊥
SaysStep (word ∷ words) does = SaysRow verb_row word words does

-- A process's number and the words of a step.
abbrev pub SaysProcess : List ℕ → List (List ℕ) → Line → Type 0
SaysProcess word words said = (pid : ℕ) × (does : Step) × IsNumber word pid × SaysStep words does
    × (line.Event (event.Proc pid does) ≡ said)

-- The words of a line that says this.
abbrev pub Says : List (List ℕ) → Line → Type 0
Says [] said = line.Silence ≡ said
Says (word ∷ words) said = SaysProcess word words said ⊎ SaysRow line_row word words said

-- A line, without its end, that says this: a comment is silent, and any other line has printable
-- bytes and words of the table.
abbrev pub IsLine : List ℕ → Line → Type 0
IsLine bytes said = (length bytes ≤ MAX_LINE)
    × (((is_comment bytes ≡ true) × (said ≡ line.Silence))
    ⊎ ((is_comment bytes ≡ false) × (all_printable bytes ≡ true) × Says (words_of bytes) said))
