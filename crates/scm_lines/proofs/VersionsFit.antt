-- Which lines that are of a form a script of some version can have.
use Rattle.std.proofs.Common.{◌≡◌, ◌⊎◌, ℕ, ◌&&◌, ◌||◌, List, [], ◌∷◌, Bool, true, false, cond, nat_le, not, Option, Some, None, is_none, is_some, refl, inl, inr, subst, ◌∙◌}
use Rattle.std.specs.Option.{option_map, option_map_or}
use Rattle.std.proofs.lemmas.Bool.{false≢true}
use Rattle.std.proofs.lemmas.Option.{none-some}
use Rattle.af_base.specs.declared.events.SockType.{SockType}
use Rattle.af_base.specs.declared.events.Step.{Step}
use Rattle.af_base.specs.declared.events.Step.TheVariants as step
use Rattle.af_base.specs.declared.events.Event.TheVariants as event
use Rattle.scm_lines.specs.Words.{at_end, ◌>>=◌}
use Rattle.scm_lines.specs.Numbers.{word_number}
use Rattle.scm_lines.specs.Attached.{attached_of}
use Rattle.scm_lines.specs.Keywords.{privilege_of, type_of}
use Rattle.scm_lines.specs.Fitting.{form_in, has_keyword, has_type_at, has_types, has_verb, step_in}
use Rattle.scm_lines.specs.Forms.{Form, Value, end, items, keywords, line_row, row_named, privilege, read_form, sockets, verb_row, value_in, verbs, ◌◂◌}
use Rattle.scm_lines.specs.Meaning.{form_of, step_of}
use Rattle.scm_lines.specs.Versions.{has_line, has_step, has_type, number_of}
use Rattle.scm_lines.specs.declared.keywords.Keyword.{Keyword}
use Rattle.scm_lines.specs.declared.keywords.Keyword.TheVariants as keyword
use Rattle.scm_lines.specs.declared.keywords.Verb.{Verb}
use Rattle.scm_lines.specs.declared.keywords.Verb.TheVariants as verb
use Rattle.scm_lines.specs.declared.line.Line.{Line}
use Rattle.scm_lines.specs.declared.line.Line.TheVariants as line
use Rattle.scm_lines.specs.declared.version.Version.{Version}
use Rattle.scm_lines.specs.declared.version.Version.TheVariants as version
use Rattle.scm_lines.proofs.Choices.{bound, ended, mapped}

-- ---- what a form makes

-- All that the form makes passes.
abbrev AllMake : {A : Type 0} → (A → Type 0) → Form A → Type 0
AllMake P (end x) = P x
AllMake P (privilege makes) = (granted : Bool) → P (makes granted)
AllMake P (items makes) = (fds : List ℕ) → P (makes fds)
AllMake P (k ◂ form) = (v : Value k) → AllMake P (form v)

-- So what is read by it passes.
pub made : {A : Type 0} (P : A → Type 0) (form : Form A) → AllMake P form → (words : List (List ℕ)) (x : A) → read_form form words ≡ Some x → P x
made P (end y) all words x e = subst P (ended y x words e).1 all
made P (privilege makes) all words x e = let (granted, (e1, is)) = mapped makes (privilege_of words) x e in subst P is (all granted)
made P (items makes) all words x e = let (fds, (e1, is)) = mapped makes (attached_of words) x e in subst P is (all fds)
made {A} P (k ◂ form) all words x e =
    let (found, (e1, e2)) = bound (value_in k words) (λ found. read_form (form found.0) found.1) x e in made P (form found.0) (all found.0) found.1 x e2

-- Nothing is there.
pub none_of : (r : Option ℕ) → false ≡ is_some r → None ≡ r
none_of None e = refl
none_of (Some x) e = cc

-- Where words misfit or the version has them, a misfit is one by either reason.
unless : (misfit has : Bool) → (misfit ≡ true) ⊎ (has ≡ true) → misfit ≡ (misfit || not has)
unless true has either = refl
unless false true either = refl
unless false false (inl e) = cc
unless false false (inr e) = cc

-- A choice with truth is true.
or_true : (b : Bool) → true ≡ (b || true)
or_true true = refl
or_true false = refl

-- The same where the version may also not have the type of the words.
unless_typed : (none typed has misfit : Bool) → misfit ≡ (not typed || none) → (misfit ≡ true)
    ⊎ (has ≡ true) → misfit ≡ (none || not (typed && has))
unless_typed true true has misfit is either = is
unless_typed true false has misfit is either = is
unless_typed false true true misfit is either = is
unless_typed false true false misfit is (inl e) = e
unless_typed false true false misfit is (inr e) = absurd (false≢true e)
unless_typed false false has misfit is either = is

-- What is not there is none.
or_not : (b c : Bool) → true ≡ (b || not (c && false))
or_not true c = refl
or_not false true = refl
or_not false false = refl

-- ---- verbs

-- Each version is the first, or a later one.
from_first : (v : Version) (b : Bool) → b ≡ (b && nat_le 1 (number_of v))
from_first version.Unknown true = refl
from_first version.Unknown false = refl
from_first version.First true = refl
from_first version.First false = refl
from_first version.Second true = refl
from_first version.Second false = refl
from_first version.Third true = refl
from_first version.Third false = refl

-- A step of a type of sockets is of the versions that the type is of.
type_makes : (v : Version) (makes : SockType → Step)
    → ((kind : SockType) → has_step v (makes kind) ≡ has_type v kind)
    → (words : List (List ℕ)) (does : Step)
    → read_form (sockets ◂ λ kind. end (makes kind)) words ≡ Some does → has_step v does
    ≡ (has_type_at v words && nat_le 1 (number_of v))
type_makes v makes same [] does e = absurd (none-some does e)
type_makes v makes same (word ∷ words) does e = by (type_of word) e
  where
    by : (o : Option SockType)
        → (option_map (λ kind. (kind, words)) o >>= λ (found : SockType
        × List (List ℕ)). at_end (makes found.0) found.1) ≡ Some does
        → has_step v does ≡ (option_map_or (has_type v) o true && nat_le 1 (number_of v))
    by None e = absurd (none-some does e)
    by (Some kind) e = subst (λ s. has_step v s
        ≡ (has_type v kind && nat_le 1 (number_of v))) (ended (makes kind) does words e).1
        (same kind ∙ from_first v (has_type v kind))

-- The steps of a verb are of the versions that the verb is of, and its type of sockets.
pub verb_makes : (v : Version) (k : Verb) (words : List (List ℕ)) (does : Step)
    → read_form (verb_row k).1 words ≡ Some does → has_step v does
    ≡ (has_types v k words && has_verb v k)
verb_makes v verb.Send =
    made (λ does. has_step v does
    ≡ has_verb v verb.Send) (verb_row verb.Send).1 (λ on bytes fds. refl)
verb_makes v verb.Recv =
    made (λ does. has_step v does
    ≡ has_verb v verb.Recv) (verb_row verb.Recv).1 (λ on max_bytes max_fds. refl)
verb_makes v verb.Open =
    made (λ does. has_step v does ≡ has_verb v verb.Open) (verb_row verb.Open).1 refl
verb_makes v verb.Close =
    made (λ does. has_step v does ≡ has_verb v verb.Close) (verb_row verb.Close).1 (λ fd. refl)
verb_makes v verb.Dup =
    made (λ does. has_step v does ≡ has_verb v verb.Dup) (verb_row verb.Dup).1 (λ fd. refl)
verb_makes v verb.Dup2 =
    made (λ does. has_step v does ≡ has_verb v verb.Dup2) (verb_row verb.Dup2).1 (λ from to. refl)
verb_makes v verb.Connect =
    made (λ does. has_step v does
    ≡ has_verb v verb.Connect) (verb_row verb.Connect).1 (λ on text. refl)
verb_makes v verb.Accept =
    made (λ does. has_step v does ≡ has_verb v verb.Accept) (verb_row verb.Accept).1 (λ fd. refl)
verb_makes v verb.Socket = type_makes v step.Socket (λ kind. refl)
verb_makes v verb.Pair = type_makes v step.Pair (λ kind. refl)
verb_makes v verb.Fork =
    made (λ does. has_step v does ≡ has_verb v verb.Fork) (verb_row verb.Fork).1 refl
verb_makes v verb.Exit =
    made (λ does. has_step v does ≡ has_verb v verb.Exit) (verb_row verb.Exit).1 refl
verb_makes v verb.Bind =
    made (λ does. has_step v does ≡ has_verb v verb.Bind) (verb_row verb.Bind).1 (λ on text. refl)
verb_makes v verb.Listen =
    made (λ does. has_step v does
    ≡ has_verb v verb.Listen) (verb_row verb.Listen).1 (λ on backlog. refl)
verb_makes v verb.Peek =
    made (λ does. has_step v does
    ≡ has_verb v verb.Peek) (verb_row verb.Peek).1 (λ on max_bytes max_fds. refl)
verb_makes v verb.Limit =
    made (λ does. has_step v does ≡ has_verb v verb.Limit) (verb_row verb.Limit).1 (λ nofile. refl)
verb_makes v verb.Shutdown =
    made (λ does. has_step v does
    ≡ has_verb v verb.Shutdown) (verb_row verb.Shutdown).1 (λ on ends. refl)
verb_makes v verb.Unconnect =
    made (λ does. has_step v does
    ≡ has_verb v verb.Unconnect) (verb_row verb.Unconnect).1 (λ on. refl)

-- No word behind the process's number says no step.
pub step_in_none : (v : Version) → true ≡ is_none (step_in v [])
unfolding step_in step_of
step_in_none v = refl

-- A word that is no verb says no step.
pub step_in_other : (v : Version) (word : List ℕ) (words : List (List ℕ)) → None ≡ row_named verb_row verbs word → true ≡ is_none (step_in v (word ∷ words))
unfolding step_in step_of
step_in_other v word words other = rw (← other) refl

-- A verb says a step where its words are read, and the version has it and their type.
step_in_named : (v : Version) (word : List ℕ) (words : List (List ℕ)) (k : Verb) → Some k ≡ row_named verb_row verbs word
    → is_none (step_in v (word ∷ words))
    ≡ (is_none (read_form (verb_row k).1 words) || not (has_types v k words && has_verb v k))
unfolding step_in step_of
step_in_named v word words k is =
    rw (← is) (by (has_types v k words
    && has_verb v k) (read_form (verb_row k).1 words) (verb_makes v k words))
  where
    by : (has : Bool) (r : Option Step) → ((does : Step) → r ≡ Some does → has_step v does ≡ has)
        → is_none (r >>= λ does. cond (has_step v does) (Some does) None) ≡ (is_none r || not has)
    by has None same = refl
    by has (Some does) same = rw (same does refl) (by_version has)
      where
        by_version : (has : Bool) → is_none (cond has (Some does) None) ≡ (false || not has)
        by_version true = refl
        by_version false = refl

-- A verb's misfit is the step's, where there is one or the version has the verb.
pub step_misfit : (v : Version) (word : List ℕ) (words line : List (List ℕ)) (k : Verb) (misfit : Bool) → line ≡ word ∷ words → Some k ≡ row_named verb_row verbs word
    → misfit ≡ (not (has_types v k words) || is_none (read_form (verb_row k).1 words))
    → (misfit ≡ true) ⊎ (has_verb v k ≡ true) → misfit ≡ is_none (step_in v line)
step_misfit v word words line k misfit parted is exact either =
    rw (parted, step_in_named v word words k is)
    (unless_typed (is_none (read_form (verb_row k).1 words)) (has_types v k words)
    (has_verb v k) misfit exact either)

-- A step of another version is none.
pub step_late : (v : Version) (word : List ℕ) (words line : List (List ℕ)) (k : Verb) → line ≡ word ∷ words → Some k ≡ row_named verb_row verbs word
    → has_verb v k ≡ false → true ≡ is_none (step_in v line)
step_late v word words line k parted is late =
    rw (
      parted,
      step_in_named v word words k is,
      late,
    ) (or_not (is_none (read_form (verb_row k).1 words)) (has_types v k words))

-- ---- keywords

-- The lines of a keyword are of a version where the keyword is.
keyword_makes : (v : Version) (k : Keyword) → AllMake (λ said. has_line v said ≡ has_keyword v k) (line_row k).1
keyword_makes v keyword.Spawn = λ uid nofile granted. refl
keyword_makes v keyword.Begin = refl
keyword_makes v keyword.Slice = λ budget. refl
keyword_makes v keyword.Pass = refl
keyword_makes v keyword.Table = refl
keyword_makes v keyword.Totals = refl
keyword_makes v keyword.Check = refl
keyword_makes v keyword.Version = λ named. refl

-- A process's number begins a line where its step is one.
pub form_in_process : (v : Version) (word : List ℕ) (words : List (List ℕ)) (pid : ℕ) → Some pid ≡ word_number word
    → is_none (form_in v word words) ≡ is_none (step_in v words)
unfolding form_in form_of step_in
form_in_process v word words pid is = rw (← is) (by (step_of words))
  where
    by : (r : Option Step) → is_none (option_map (λ does. line.Event (event.Proc pid does)) r >>= λ said. cond (has_line v said) (Some said) None)
        ≡ is_none (r >>= λ does. cond (has_step v does) (Some does) None)
    by None = refl
    by (Some does) = by_version (has_step v does)
      where
        by_version : (has : Bool) → is_none (cond has (Some (line.Event (event.Proc pid does))) None) ≡ is_none (cond has (Some does) None)
        by_version true = refl
        by_version false = refl

-- A word that is neither a number nor a keyword begins no line.
pub form_in_other : (v : Version) (word : List ℕ) (words : List (List ℕ)) → None ≡ word_number word → None ≡ row_named line_row keywords word
    → true ≡ is_none (form_in v word words)
unfolding form_in form_of
form_in_other v word words no_number other = rw (← no_number, ← other) refl

-- A keyword begins a line where its words are read, and the version has it.
form_in_named : (v : Version) (word : List ℕ) (words : List (List ℕ)) (k : Keyword) → None ≡ word_number word → Some k ≡ row_named line_row keywords word
    → is_none (form_in v word words) ≡ (is_none (read_form (line_row k).1 words) || not (has_keyword v k))
unfolding form_in form_of
form_in_named v word words k no_number is =
    rw (← no_number, ← is) (by (read_form (line_row k).1 words) (made (λ said. has_line v said ≡ has_keyword v k) (line_row k).1 (keyword_makes v k) words))
  where
    by : (r : Option Line) → ((said : Line) → r ≡ Some said → has_line v said ≡ has_keyword v k)
        → is_none (r >>= λ said. cond (has_line v said) (Some said) None) ≡ (is_none r || not (has_keyword v k))
    by None same = refl
    by (Some said) same = rw (same said refl) (by_version (has_keyword v k))
      where
        by_version : (has : Bool) → is_none (cond has (Some said) None) ≡ (false || not has)
        by_version true = refl
        by_version false = refl

-- A keyword's misfit is the line's, where there is one or the version has the keyword.
pub form_misfit : (v : Version) (word : List ℕ) (words : List (List ℕ)) (k : Keyword) (misfit : Bool) → None ≡ word_number word → Some k ≡ row_named line_row keywords word
    → misfit ≡ is_none (read_form (line_row k).1 words) → (misfit ≡ true) ⊎ (has_keyword v k ≡ true) → misfit ≡ is_none (form_in v word words)
form_misfit v word words k misfit no_number is exact either = rw (form_in_named v word words k no_number is, ← exact) (unless misfit (has_keyword v k) either)

-- A line of another version is none.
pub form_late : (v : Version) (word : List ℕ) (words : List (List ℕ)) (k : Keyword) → None ≡ word_number word → Some k ≡ row_named line_row keywords word
    → has_keyword v k ≡ false → true ≡ is_none (form_in v word words)
form_late v word words k no_number is late = rw (form_in_named v word words k no_number is, late) (or_true (is_none (read_form (line_row k).1 words)))
