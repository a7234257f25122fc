-- The meaning of a line. This project's profile.
use Rattle.std.specs.Prelude.{ℕ, nat_lt, Bool, true, false, List, [], ◌∷◌, length, if◌then◌else◌, Option, Some, None}
use Rattle.std.specs.Option.{option_map}
use Rattle.af_base.specs.declared.events.Step.{Step}
use Rattle.af_base.specs.declared.events.Event.TheVariants as event
use Rattle.scm_lines.specs.Words.{all_printable, is_comment, word_in, words_of}
pub use Rattle.scm_lines.specs.Words.{◌>>=◌}
use Rattle.scm_lines.specs.Numbers.{word_number}
use Rattle.scm_lines.specs.Forms.{keywords, line_row, row_named, read_by, verb_row, verbs}
use Rattle.scm_lines.specs.declared.keywords.Verb.{Verb}
use Rattle.scm_lines.specs.declared.keywords.Verb.TheVariants as verb
use Rattle.scm_lines.specs.declared.line.Line.{Line}
use Rattle.scm_lines.specs.declared.line.Line.TheVariants as line
use Rattle.scm_lines.specs.declared.line.TheConstants.{MAX_LINE}

-- The step of a process, by the words after its number.
unfoldable pub step_of : List (List ℕ) → Option Step
step_of words = word_in words >>= λ word. read_by verb_row verbs word.0 word.1

-- Reading a step of this verb may take memory: for a name, or for bytes and descriptors.
abbrev pub takes_memory : Option Verb → Bool
takes_memory (Some verb.Send) = true
takes_memory (Some verb.Bind) = true
takes_memory (Some verb.Connect) = true
takes_memory other = false

-- Reading the step of these words, behind a process's number, may take memory.
abbrev pub step_takes_memory : List (List ℕ) → Bool
step_takes_memory [] = false
step_takes_memory (word ∷ words) = takes_memory (row_named verb_row verbs word)

-- Reading the line of these words may take memory.
abbrev pub line_takes_memory : List (List ℕ) → Bool
line_takes_memory [] = false
line_takes_memory (word ∷ words) = step_takes_memory words

-- The meaning of a line after its first word, which is a process's number or a keyword.
abbrev pub line_behind : Option ℕ → List ℕ → List (List ℕ) → Option Line
line_behind (Some pid) word words =
    option_map (λ does. line.Event (event.Proc pid does)) (step_of words)
line_behind None word words = read_by line_row keywords word words

-- The meaning of a line that begins with this word.
unfoldable pub form_of : List ℕ → List (List ℕ) → Option Line
form_of word words = line_behind (word_number word) word words

-- The meaning of the words of a line.
abbrev pub words_say : List (List ℕ) → Option Line
words_say [] = Some line.Silence
words_say (word ∷ words) = form_of word words

-- The meaning of a line, without its end, if it can be read.
unfoldable pub line_of : List ℕ → Option Line
line_of bytes =
    if nat_lt MAX_LINE (length bytes) then None
    else if is_comment bytes then Some line.Silence
    else if all_printable bytes then words_say (words_of bytes)
    else None
