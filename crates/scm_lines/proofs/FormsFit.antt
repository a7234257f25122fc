-- Words fit what is wanted exactly where a form reads them.
use Rattle.std.proofs.Common.{◌≡◌, ℕ, ◌&&◌, ◌||◌, List, [], ◌∷◌, Bool, true, false, cond, not, Option, Some, None, is_none, is_some, refl, sym, ap, subst, ◌∙◌}
use Rattle.std.specs.Option.{option_map, option_map_or}
use Rattle.af_base.specs.declared.events.SockType.{SockType}
use Rattle.af_base.specs.declared.events.Step.TheVariants as step
use Rattle.std.proofs.lemmas.Option.{none-some, same_Some}
use Rattle.af_base.proofs.Lookups.{mapped_some}
use Rattle.scm_lines.specs.Words.{all_printable, at_end, no_words, ◌>>=◌}
use Rattle.scm_lines.specs.Numbers.{word_number}
use Rattle.scm_lines.specs.Payload.{payload_of}
use Rattle.scm_lines.specs.Attached.{attached_of}
use Rattle.scm_lines.specs.Keywords.{how_of, privilege_of, type_of, version_of}
use Rattle.scm_lines.specs.Fitting.{fits_word, fits_words, has_type_at, has_types}
use Rattle.scm_lines.specs.Forms.{Form, Kind, Value, end, how, items, line_row, name, number, payload, privilege, read_form, sockets, verb_row, version, word_value, ◌◂◌}
use Rattle.scm_lines.specs.Versions.{has_type}
use Rattle.scm_lines.specs.declared.explain.Last.{Last}
use Rattle.scm_lines.specs.declared.explain.Last.TheVariants as last
use Rattle.scm_lines.specs.declared.explain.Wanted.{Wanted}
use Rattle.scm_lines.specs.declared.explain.Wanted.TheVariants as wanted
use Rattle.scm_lines.specs.declared.keywords.Keyword.{Keyword}
use Rattle.scm_lines.specs.declared.keywords.Keyword.TheVariants as keyword
use Rattle.scm_lines.specs.declared.keywords.Verb.{Verb}
use Rattle.scm_lines.specs.declared.keywords.Verb.TheVariants as verb
use Rattle.scm_lines.specs.declared.version.Version.{Version}

-- ---- forms

-- The kind of word that is wanted, where each version has the same words of it.
abbrev kind_of : Wanted → Option Kind
kind_of wanted.Number = Some number
kind_of (wanted.Type v) = None
kind_of wanted.Name = Some name
kind_of wanted.Bytes = Some payload
kind_of wanted.How = Some how
kind_of wanted.Version = Some version

-- The form has the words that are wanted.
abbrev HasWords : {A : Type 0} → Form A → List Wanted → Last → Type 0
HasWords (end makes) [] last.Nothing = Unit {0}
HasWords (privilege makes) [] last.Privilege = Unit {0}
HasWords (items makes) [] last.Items = Unit {0}
HasWords (k ◂ form) (first ∷ others) ending = (kind_of first ≡ Some k)
    × ((v : Value k) → HasWords (form v) others ending)
HasWords form wanted ending = ⊥

-- A word fits what is wanted exactly if it is read.
word_fits : (first : Wanted) (k : Kind) (word : List ℕ) → kind_of first ≡ Some k
    → fits_word first word ≡ is_some (word_value k word)
word_fits wanted.Number k word is =
    subst (λ k. is_some (word_number word)
    ≡ is_some (word_value k word)) (same_Some number k is) refl
word_fits (wanted.Type v) k word is = absurd (none-some k is)
word_fits wanted.Name k word is =
    subst (λ k. all_printable word
    ≡ is_some (word_value k word)) (same_Some name k is) (by (all_printable word))
  where
    by : (printable : Bool) → printable ≡ is_some (cond printable (Some word) None)
    by true = refl
    by false = refl
word_fits wanted.Bytes k word is =
    subst (λ k. is_some (payload_of word)
    ≡ is_some (word_value k word)) (same_Some payload k is) refl
word_fits wanted.How k word is =
    subst (λ k. is_some (how_of word) ≡ is_some (word_value k word)) (same_Some how k is) refl
word_fits wanted.Version k word is =
    subst (λ k. is_some (version_of word)
    ≡ is_some (word_value k word)) (same_Some version k is) refl

-- An option is none exactly if it has no value.
none_not_some : {A : Type 0} (r : Option A) → not (is_some r) ≡ is_none r
none_not_some None = refl
none_not_some (Some x) = refl

-- A value at the end is there exactly where no word is left.
ended_some : {A : Type 0} (x : A) (words : List (List ℕ)) → no_words words ≡ is_some (at_end x words)
ended_some x [] = refl
ended_some x (word ∷ words) = refl

-- Words fit what is wanted exactly if the form reads them.
words_fit : {A : Type 0} (form : Form A) (wanted : List Wanted) (ending : Last) → HasWords form wanted ending
    → (words : List (List ℕ)) → fits_words wanted ending words ≡ is_some (read_form form words)
words_fit (end makes) [] last.Nothing has words = ended_some makes words
words_fit (end makes) [] last.Privilege has words = absurd has
words_fit (end makes) [] last.Items has words = absurd has
words_fit (end makes) (first ∷ others) ending has words = absurd has
words_fit (privilege makes) [] last.Nothing has words = absurd has
words_fit (privilege makes) [] last.Privilege has words = sym (mapped_some makes (privilege_of words))
words_fit (privilege makes) [] last.Items has words = absurd has
words_fit (privilege makes) (first ∷ others) ending has words = absurd has
words_fit (items makes) [] last.Nothing has words = absurd has
words_fit (items makes) [] last.Privilege has words = absurd has
words_fit (items makes) [] last.Items has words = sym (mapped_some makes (attached_of words))
words_fit (items makes) (first ∷ others) ending has words = absurd has
words_fit (k ◂ form) [] ending has words = absurd has
words_fit (k ◂ form) (first ∷ others) ending has [] = refl
words_fit {A} (k ◂ form) (first ∷ others) ending (is, has) (word ∷ words) =
    rw (word_fits first k word is)
    (by (word_value k word) (λ v. words_fit (form v) others ending (has v) words))
  where
    by : (v : Option (Value k)) → ((v : Value k) → fits_words others ending words ≡ is_some (read_form (form v) words))
        → (is_some v && fits_words others ending words) ≡ is_some (option_map (λ v. (v, words)) v >>= λ (found : Value k × List (List ℕ)). read_form (form found.0) found.1)
    by None fit = refl
    by (Some v) fit = fit v

-- ---- rows

-- So words that do not fit are not read.
row_fits : {A : Type 0} (form : Form A) (wanted : List Wanted) (ending : Last)
    → HasWords form wanted ending
    → (words : List (List ℕ)) → not (fits_words wanted ending words)
    ≡ is_none (read_form form words)
row_fits form wanted ending has words = ap not (words_fit form wanted ending has words)
    ∙ none_not_some (read_form form words)

-- A type fits exactly if it is read, and the version has it.
type_fits : {A : Type 0} (v : Version) (makes : SockType → A) (words : List (List ℕ))
    → not (fits_words (wanted.Type v ∷ []) last.Nothing words)
    ≡ (not (has_type_at v words)
    || is_none (read_form (sockets ◂ λ kind. end (makes kind)) words))
type_fits v makes [] = refl
type_fits {A} v makes (word ∷ words) = by (type_of word)
  where
    one : (has : Bool) (kind : SockType) (words : List (List ℕ)) → not (has && no_words words)
        ≡ (not has || is_none (at_end (makes kind) words))
    one true kind [] = refl
    one true kind (other ∷ words) = refl
    one false kind words = refl

    by : (o : Option SockType) → not (option_map_or (has_type v) o false && no_words words)
        ≡ (not (option_map_or (has_type v) o true)
        || is_none (option_map (λ kind. (kind, words)) o >>= λ (found : SockType
        × List (List ℕ)). at_end (makes found.0) found.1))
    by None = refl
    by (Some kind) = one (has_type v kind) kind words

-- The words of a verb's row.
abbrev step_words : Version → Verb → List Wanted × Last
step_words v verb.Send = (wanted.Number ∷ wanted.Bytes ∷ [], last.Items)
step_words v verb.Recv = (wanted.Number ∷ wanted.Number ∷ wanted.Number ∷ [], last.Nothing)
step_words v verb.Open = ([], last.Nothing)
step_words v verb.Close = (wanted.Number ∷ [], last.Nothing)
step_words v verb.Dup = (wanted.Number ∷ [], last.Nothing)
step_words v verb.Dup2 = (wanted.Number ∷ wanted.Number ∷ [], last.Nothing)
step_words v verb.Connect = (wanted.Number ∷ wanted.Name ∷ [], last.Nothing)
step_words v verb.Accept = (wanted.Number ∷ [], last.Nothing)
step_words v verb.Socket = (wanted.Type v ∷ [], last.Nothing)
step_words v verb.Pair = (wanted.Type v ∷ [], last.Nothing)
step_words v verb.Fork = ([], last.Nothing)
step_words v verb.Exit = ([], last.Nothing)
step_words v verb.Bind = (wanted.Number ∷ wanted.Name ∷ [], last.Nothing)
step_words v verb.Listen = (wanted.Number ∷ wanted.Number ∷ [], last.Nothing)
step_words v verb.Peek = (wanted.Number ∷ wanted.Number ∷ wanted.Number ∷ [], last.Nothing)
step_words v verb.Limit = (wanted.Number ∷ [], last.Nothing)
step_words v verb.Shutdown = (wanted.Number ∷ wanted.How ∷ [], last.Nothing)
step_words v verb.Unconnect = (wanted.Number ∷ [], last.Nothing)

-- Words do not fit where they are read as no step, or the version does not have their type.
pub step_fits : (v : Version) (k : Verb) (words : List (List ℕ))
    → not (fits_words (step_words v k).0 (step_words v k).1 words)
    ≡ (not (has_types v k words) || is_none (read_form (verb_row k).1 words))
step_fits v verb.Send words =
    row_fits (verb_row verb.Send).1 (step_words v verb.Send).0 (step_words v verb.Send).1 (
      refl,
      λ on. (refl, λ bytes. tt),
    ) words
step_fits v verb.Recv words =
    row_fits (verb_row verb.Recv).1 (step_words v verb.Recv).0 (step_words v verb.Recv).1 (
      refl,
      λ on. (refl, λ max_bytes. (refl, λ max_fds. tt)),
    ) words
step_fits v verb.Open words =
    row_fits (verb_row verb.Open).1 (step_words v verb.Open).0 (step_words v verb.Open).1 tt words
step_fits v verb.Close words =
    row_fits (verb_row verb.Close).1 (step_words v verb.Close).0 (step_words v verb.Close).1
    (refl, λ fd. tt) words
step_fits v verb.Dup words =
    row_fits (verb_row verb.Dup).1 (step_words v verb.Dup).0 (step_words v verb.Dup).1 (
      refl,
      λ fd. tt,
    ) words
step_fits v verb.Dup2 words =
    row_fits (verb_row verb.Dup2).1 (step_words v verb.Dup2).0 (step_words v verb.Dup2).1 (
      refl,
      λ from. (refl, λ to. tt),
    ) words
step_fits v verb.Connect words =
    row_fits (verb_row verb.Connect).1 (step_words v verb.Connect).0 (step_words v verb.Connect).1
    (refl, λ on. (refl, λ text. tt)) words
step_fits v verb.Accept words =
    row_fits (verb_row verb.Accept).1 (step_words v verb.Accept).0 (step_words v verb.Accept).1
    (refl, λ fd. tt) words
step_fits v verb.Socket words = type_fits v step.Socket words
step_fits v verb.Pair words = type_fits v step.Pair words
step_fits v verb.Fork words =
    row_fits (verb_row verb.Fork).1 (step_words v verb.Fork).0 (step_words v verb.Fork).1 tt words
step_fits v verb.Exit words =
    row_fits (verb_row verb.Exit).1 (step_words v verb.Exit).0 (step_words v verb.Exit).1 tt words
step_fits v verb.Bind words =
    row_fits (verb_row verb.Bind).1 (step_words v verb.Bind).0 (step_words v verb.Bind).1 (
      refl,
      λ on. (refl, λ text. tt),
    ) words
step_fits v verb.Listen words =
    row_fits (verb_row verb.Listen).1 (step_words v verb.Listen).0 (step_words v verb.Listen).1
    (refl, λ on. (refl, λ backlog. tt)) words
step_fits v verb.Peek words =
    row_fits (verb_row verb.Peek).1 (step_words v verb.Peek).0 (step_words v verb.Peek).1 (
      refl,
      λ on. (refl, λ max_bytes. (refl, λ max_fds. tt)),
    ) words
step_fits v verb.Limit words =
    row_fits (verb_row verb.Limit).1 (step_words v verb.Limit).0 (step_words v verb.Limit).1
    (refl, λ nofile. tt) words
step_fits v verb.Shutdown words =
    row_fits (verb_row verb.Shutdown).1 (step_words v verb.Shutdown).0
    (step_words v verb.Shutdown).1 (refl, λ on. (refl, λ ends. tt)) words
step_fits v verb.Unconnect words =
    row_fits (verb_row verb.Unconnect).1 (step_words v verb.Unconnect).0
    (step_words v verb.Unconnect).1 (refl, λ on. tt) words

-- The words of a keyword's row.
abbrev line_words : Keyword → List Wanted × Last
line_words keyword.Spawn = (wanted.Number ∷ wanted.Number ∷ [], last.Privilege)
line_words keyword.Begin = ([], last.Nothing)
line_words keyword.Slice = (wanted.Number ∷ [], last.Nothing)
line_words keyword.Pass = ([], last.Nothing)
line_words keyword.Table = ([], last.Nothing)
line_words keyword.Totals = ([], last.Nothing)
line_words keyword.Check = ([], last.Nothing)
line_words keyword.Version = (wanted.Version ∷ [], last.Nothing)

-- The form of another line has the words that are wanted of it.
line_has : (k : Keyword) → HasWords (line_row k).1 (line_words k).0 (line_words k).1
line_has keyword.Spawn = (refl, λ uid. (refl, λ nofile. tt))
line_has keyword.Begin = tt
line_has keyword.Slice = (refl, λ budget. tt)
line_has keyword.Pass = tt
line_has keyword.Table = tt
line_has keyword.Totals = tt
line_has keyword.Check = tt
line_has keyword.Version = (refl, λ named. tt)

-- So words that do not fit are read as no line.
pub line_fits : (k : Keyword) (words : List (List ℕ)) → not (fits_words (line_words k).0 (line_words k).1 words) ≡ is_none (read_form (line_row k).1 words)
line_fits k = row_fits (line_row k).1 (line_words k).0 (line_words k).1 (line_has k)
