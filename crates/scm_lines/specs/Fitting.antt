-- Which words fit a form, and why a word is no number. This project's profile.
use Rattle.std.specs.Prelude.{ℕ, nat_le, ◌==◌, ◌&&◌, List, [], ◌∷◌, Bool, true, false, if◌then◌else◌, Option, Some, None, is_some}
use Rattle.std.specs.Option.{option_map_or}
use Rattle.af_base.specs.declared.events.Step.{Step}
use Rattle.scm_lines.specs.Words.{all_printable, no_words}
use Rattle.scm_lines.specs.Numbers.{all_digits, word_number}
use Rattle.scm_lines.specs.Payload.{payload_of}
use Rattle.scm_lines.specs.Attached.{attached_of}
use Rattle.scm_lines.specs.Keywords.{how_of, privilege_of, type_of, version_of}
use Rattle.scm_lines.specs.Meaning.{form_of, step_of, ◌>>=◌}
use Rattle.scm_lines.specs.Versions.{has_line, has_step, has_type, is_unknown, number_of}
use Rattle.scm_lines.specs.declared.line.Line.{Line}
use Rattle.scm_lines.specs.declared.explain.Last.{Last}
use Rattle.scm_lines.specs.declared.explain.Last.TheVariants as last
use Rattle.scm_lines.specs.declared.explain.Wanted.{Wanted}
use Rattle.scm_lines.specs.declared.explain.Wanted.TheVariants as wanted
use Rattle.scm_lines.specs.declared.keywords.Keyword.{Keyword}
use Rattle.scm_lines.specs.declared.keywords.Keyword.TheVariants as keyword
use Rattle.scm_lines.specs.declared.keywords.Verb.{Verb}
use Rattle.scm_lines.specs.declared.keywords.Verb.TheVariants as verb
use Rattle.scm_lines.specs.declared.reason.Reason.{Reason}
use Rattle.scm_lines.specs.declared.reason.Reason.TheVariants as reason
use Rattle.scm_lines.specs.declared.version.Version.{Version}

-- Why digits that are no number are none: there is none of them, a 0 leads them, or they say too
-- much.
abbrev pub digits_reason : List ℕ → Reason
digits_reason [] = reason.NotANumber
digits_reason (b ∷ []) = reason.NumberTooLarge
digits_reason (b ∷ c ∷ bytes) = if b == 48 then reason.LeadingZero else reason.NumberTooLarge

-- Why a word that is no number is none.
abbrev pub number_reason : List ℕ → Reason
number_reason word = if all_digits word then digits_reason word else reason.NotANumber

-- The word is a type of sockets that a script of this version has.
abbrev pub fits_type : Version → List ℕ → Bool
fits_type v word = option_map_or (has_type v) (type_of word) false

-- The word is what is wanted.
abbrev pub fits_word : Wanted → List ℕ → Bool
fits_word wanted.Number word = is_some (word_number word)
fits_word (wanted.Type v) word = fits_type v word
fits_word wanted.Name word = all_printable word
fits_word wanted.Bytes word = is_some (payload_of word)
fits_word wanted.How word = is_some (how_of word)
fits_word wanted.Version word = is_some (version_of word)

-- The last words are what is wanted.
abbrev pub fits_last : Last → List (List ℕ) → Bool
fits_last last.Nothing words = no_words words
fits_last last.Privilege words = is_some (privilege_of words)
fits_last last.Items words = is_some (attached_of words)

-- The words are what is wanted, one after another.
abbrev pub fits_words : List Wanted → Last → List (List ℕ) → Bool
fits_words [] end words = fits_last end words
fits_words (first ∷ others) end [] = false
fits_words (first ∷ others) end (word ∷ words) = fits_word first word && fits_words others end words

-- The number of the first version that has the verb.
abbrev pub first_number_of_verb : Verb → ℕ
first_number_of_verb verb.Peek = 2
first_number_of_verb verb.Limit = 2
first_number_of_verb verb.Shutdown = 3
first_number_of_verb verb.Unconnect = 3
first_number_of_verb other = 1

-- Events with this verb can come now.
abbrev pub has_verb : Version → Verb → Bool
has_verb v verb = nat_le (first_number_of_verb verb) (number_of v)

-- The script has the type of sockets that the words begin with, if they begin with one.
abbrev pub has_type_at : Version → List (List ℕ) → Bool
has_type_at v [] = true
has_type_at v (word ∷ words) = option_map_or (has_type v) (type_of word) true

-- The script has the type of sockets that the words behind a verb name, if they name one.
abbrev pub has_types : Version → Verb → List (List ℕ) → Bool
has_types v verb.Pair words = has_type_at v words
has_types v verb.Socket words = has_type_at v words
has_types v other words = true

-- A line with this keyword can come now.
abbrev pub has_keyword : Version → Keyword → Bool
has_keyword v keyword.Version = is_unknown v
has_keyword v other = true

-- The step of a process in a script of this version.
unfoldable pub step_in : Version → List (List ℕ) → Option Step
step_in v words =
    step_of words >>= λ does. if has_step v does then Some does else None

-- The next line of a script, by its first word.
unfoldable pub form_in : Version → List ℕ → List (List ℕ) → Option Line
form_in v word words = form_of word words >>= λ said. if has_line v said then Some said else None
