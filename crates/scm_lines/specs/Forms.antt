-- The table of forms: which words follow a keyword, and what they make. This project's profile.
use Rattle.std.specs.Prelude.{◌≡◌, ℕ, List, [], ◌∷◌, Bool, true, find, if◌then◌else◌, Option, Some, None, codes}
use Rattle.std.specs.Option.{option_map}
use Rattle.std.specs.Str.{bytes_eq}
use Rattle.af_base.specs.declared.events.Shutdown.{Shutdown}
use Rattle.af_base.specs.declared.events.SockType.{SockType}
use Rattle.af_base.specs.declared.events.Step.{Step}
use Rattle.af_base.specs.declared.events.Step.TheVariants as step
use Rattle.af_base.specs.declared.events.Event.TheVariants as event
use Rattle.scm_lines.specs.Words.{all_printable, at_end, word_as, ◌>>=◌}
use Rattle.scm_lines.specs.Numbers.{word_number}
use Rattle.scm_lines.specs.Payload.{payload_of}
use Rattle.scm_lines.specs.Attached.{attached_of}
use Rattle.scm_lines.specs.Keywords.{how_of, privilege_of, type_of, version_of}
use Rattle.scm_lines.specs.Spelling.{IsAttached, IsNumber, IsPayload, IsPrivilege, IsVersion, how_name, type_name}
use Rattle.scm_lines.specs.declared.keywords.Keyword.{Keyword}
use Rattle.scm_lines.specs.declared.keywords.Keyword.TheVariants as keyword
use Rattle.scm_lines.specs.declared.keywords.Verb.{Verb}
use Rattle.scm_lines.specs.declared.keywords.Verb.TheVariants as verb
use Rattle.scm_lines.specs.declared.line.Line.{Line}
use Rattle.scm_lines.specs.declared.line.Line.TheVariants as line
use Rattle.scm_lines.specs.declared.line.Report.TheVariants as report
use Rattle.scm_lines.specs.declared.version.Version.{Version}

-- ---- words

-- The kinds of a word: a number, a type of sockets, a name, the bytes of a message, the ends to
-- close, or a version.
pub data Kind : Type 0 where
  number sockets name payload how version : Kind

-- The value of a word of this kind.
abbrev pub Value : Kind → Type 0
Value number = ℕ
Value sockets = SockType
Value name = List ℕ
Value payload = List ℕ
Value how = Shutdown
Value version = Version

-- The word says this.
abbrev pub SaysWord : (k : Kind) → List ℕ → Value k → Type 0
SaysWord number word n = IsNumber word n
SaysWord sockets word kind = word ≡ type_name kind
SaysWord name word text = (all_printable word ≡ true) × (word ≡ text)
SaysWord payload word bytes = IsPayload word bytes
SaysWord how word ends = word ≡ how_name ends
SaysWord version word named = IsVersion word named

-- The reading of a word.
abbrev pub word_value : (k : Kind) → List ℕ → Option (Value k)
word_value number word = word_number word
word_value sockets word = type_of word
word_value name word = if all_printable word then Some word else None
word_value payload word = payload_of word
word_value how word = how_of word
word_value version word = version_of word

-- The reading of the first word, and the words after it.
abbrev pub value_in : (k : Kind) → List (List ℕ) → Option (Value k × List (List ℕ))
value_in k words = word_as (word_value k) words

-- ---- forms

-- The words of a form behind its keyword, and what they make: no word; priv or no word; items; or a
-- word of a kind, and others.
infixr 20 ◌◂◌
pub data Form (A : Type 0) : Type 0 where
  end : A → Form A
  privilege : (Bool → A) → Form A
  items : (List ℕ → A) → Form A
  ◌◂◌ : (k : Kind) → (Value k → Form A) → Form A

-- The words are of the form, and make this.
abbrev pub SaysForm : {A : Type 0} → Form A → List (List ℕ) → A → Type 0
SaysForm (end makes) words said = (words ≡ []) × (makes ≡ said)
SaysForm (privilege makes) words said = (granted : Bool)
    × (IsPrivilege words granted × (makes granted ≡ said))
SaysForm (items makes) words said = (fds : List ℕ) × (IsAttached words fds × (makes fds ≡ said))
SaysForm (k ◂ form) [] said = ⊥
SaysForm (k ◂ form) (word ∷ words) said =
    (v : Value k) × (SaysWord k word v × SaysForm (form v) words said)

-- The reading of words by a form.
abbrev pub read_form : {A : Type 0} → Form A → List (List ℕ) → Option A
read_form (end makes) words = at_end makes words
read_form (privilege makes) words = option_map makes (privilege_of words)
read_form (items makes) words = option_map makes (attached_of words)
read_form (k ◂ form) words = value_in k words >>= λ v. read_form (form v.0) v.1

-- ---- tables

-- A row of a table: a keyword, and the form behind it.
abbrev pub FormRow : Type 0 → Type 0
FormRow A = List ℕ × Form A

-- The row of a verb: the step of a process, by the words after its number.
abbrev pub verb_row : Verb → FormRow Step
verb_row verb.Send =
    (codes "send", number ◂ λ on. payload ◂ λ bytes. items λ fds. step.Send on bytes fds)
verb_row verb.Recv = (
  codes "recv",
  number ◂ λ on. number ◂ λ max_bytes. number ◂ λ max_fds. end (step.Recv on max_bytes max_fds),
)
verb_row verb.Open = (codes "open", end step.Open)
verb_row verb.Close = (codes "close", number ◂ λ fd. end (step.Close fd))
verb_row verb.Dup = (codes "dup", number ◂ λ fd. end (step.Dup fd))
verb_row verb.Dup2 = (codes "dup2", number ◂ λ from. number ◂ λ to. end (step.Dup2 from to))
verb_row verb.Connect = (codes "connect", number ◂ λ on. name ◂ λ text. end (step.Connect on text))
verb_row verb.Accept = (codes "accept", number ◂ λ fd. end (step.Accept fd))
verb_row verb.Socket = (codes "socket", sockets ◂ λ kind. end (step.Socket kind))
verb_row verb.Pair = (codes "pair", sockets ◂ λ kind. end (step.Pair kind))
verb_row verb.Fork = (codes "fork", end step.Fork)
verb_row verb.Exit = (codes "exit", end step.Exit)
verb_row verb.Bind = (codes "bind", number ◂ λ on. name ◂ λ text. end (step.Bind on text))
verb_row verb.Listen =
    (codes "listen", number ◂ λ on. number ◂ λ backlog. end (step.Listen on backlog))
verb_row verb.Peek = (
  codes "peek",
  number ◂ λ on. number ◂ λ max_bytes. number ◂ λ max_fds. end (step.Peek on max_bytes max_fds),
)
verb_row verb.Limit = (codes "limit", number ◂ λ nofile. end (step.Limit nofile))
verb_row verb.Shutdown =
    (codes "shutdown", number ◂ λ on. how ◂ λ ends. end (step.Shutdown on ends))
verb_row verb.Unconnect = (codes "unconnect", number ◂ λ on. end (step.Unconnect on))

-- The row of a keyword: the meaning of a line without a process's number.
abbrev pub line_row : Keyword → FormRow Line
line_row keyword.Spawn = (
  codes "spawn",
  number ◂ λ uid. number ◂ λ nofile. privilege λ granted.
      line.Event (event.Spawn uid nofile granted),
)
line_row keyword.Begin = (codes "begin", end (line.Event event.Begin))
line_row keyword.Slice = (codes "slice", number ◂ λ budget. end (line.Event (event.Slice budget)))
line_row keyword.Pass = (codes "pass", end (line.Event event.Pass))
line_row keyword.Table = (codes "table", end (line.Report report.Table))
line_row keyword.Totals = (codes "totals", end (line.Report report.Totals))
line_row keyword.Check = (codes "check", end (line.Report report.Check))
line_row keyword.Version = (codes "version", version ◂ λ named. end (line.Version named))

-- All verbs.
abbrev pub verbs : List Verb
verbs =
    verb.Send ∷ verb.Recv ∷ verb.Open ∷ verb.Close ∷ verb.Dup ∷ verb.Dup2
    ∷ verb.Connect ∷ verb.Accept ∷ verb.Socket ∷ verb.Pair ∷ verb.Fork ∷ verb.Exit
    ∷ verb.Bind ∷ verb.Listen ∷ verb.Peek ∷ verb.Limit ∷ verb.Shutdown
    ∷ verb.Unconnect ∷ []

-- All keywords.
abbrev pub keywords : List Keyword
keywords = keyword.Spawn ∷ keyword.Begin ∷ keyword.Slice ∷ keyword.Pass ∷ keyword.Table
    ∷ keyword.Totals ∷ keyword.Check ∷ keyword.Version ∷ []

-- The key of the row with this keyword, if there is one.
abbrev pub row_named : {K A : Type 0} → (K → FormRow A) → List K → List ℕ → Option K
row_named row keys word = find (λ k. bytes_eq (row k).0 word) keys

-- The word is the keyword of a row, and the words behind it are of its form, and make this.
abbrev pub SaysRow : {K A : Type 0} → (K → FormRow A) → List ℕ → List (List ℕ) → A → Type 0
SaysRow {K} row word words said = (k : K) × (word ≡ (row k).0) × SaysForm (row k).1 words said

-- The reading of the words after this word.
abbrev pub read_by : {K A : Type 0} → (K → FormRow A) → List K → List ℕ → List (List ℕ) → Option A
read_by row keys word words = row_named row keys word >>= λ k. read_form (row k).1 words
