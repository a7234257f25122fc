-- A table of forms reads just the words that it says, and each as it says.
use Rattle.std.proofs.Common.{◌≡◌, ℕ, ◌&&◌, List, [], ◌∷◌, Bool, true, false, cond, find, Some, None, refl, sym, ap, ◌∙◌, inl, inr, subst, codes}
use Rattle.std.specs.Option.{option_map}
use Rattle.std.specs.Str.{bytes_eq}
use Rattle.std.specs.Cmp.Derive.{both_true}
use Rattle.std.proofs.lemmas.Bool.{false≢true}
use Rattle.std.proofs.lemmas.Option.{same_Some}
use Rattle.af_base.specs.declared.events.Shutdown.{Shutdown}
use Rattle.af_base.specs.declared.events.Shutdown.TheVariants as shutdown
use Rattle.af_base.specs.declared.events.SockType.{SockType}
use Rattle.af_base.specs.declared.events.SockType.TheVariants.{Dgram, Seqpacket, Stream}
use Rattle.scm_lines.specs.Words.{all_printable, at_end}
use Rattle.scm_lines.specs.Attached.{attached_of}
use Rattle.scm_lines.specs.Keywords.{how_of, hows, meaning, privilege_of, type_of, types, version_of, versions}
use Rattle.scm_lines.specs.Spelling.{IsPrivilege, IsVersion, how_name, type_name}
use Rattle.scm_lines.specs.Forms.{Form, FormRow, Kind, SaysForm, SaysRow, SaysWord, Value, end, how, items, name, row_named, number, payload, privilege, read_by, read_form, sockets, value_in, version, word_value, ◌◂◌}
use Rattle.scm_lines.specs.declared.version.Version.{Version}
use Rattle.scm_lines.specs.declared.version.Version.TheVariants as kinds
use Rattle.af_base.proofs.DerivedEquality.{both}
use Rattle.scm_lines.proofs.Choices.{allowed, bound, chosen, ended, guarded, mapped, same_word}
use Rattle.scm_lines.proofs.NumberLemmas.{number_read, number_said}
use Rattle.scm_lines.proofs.PayloadSays.{payload_read, payload_said}
use Rattle.scm_lines.proofs.AttachedSays.{attached_read, attached_said}
use Rattle.scm_lines.proofs.WordsPrintable.{how_printable, items_printable, number_printable, payload_printable, type_printable, words_printable}

-- ---- words

-- This fact holds of the meaning of each word of a table.
abbrev pub Holds : {A : Type 0} → (List ℕ → A → Type 0) → List (List ℕ × A) → Type 0
Holds P [] = Unit {0}
Holds P (entry ∷ table) = P entry.0 entry.1 × Holds P table

-- So it holds of the meaning that is found for a word.
pub meaning_said : {A : Type 0} (P : List ℕ → A → Type 0) (table : List (List ℕ × A)) → Holds P table → (word : List ℕ) (x : A) → meaning table word ≡ Some x → P word x
meaning_said P [] all word x e = cc
meaning_said {A} P (entry ∷ table) (first, others) word x e = by_test (bytes_eq entry.0 word) refl e (meaning_said P table others word x)
  where
    by_test : (b : Bool) → bytes_eq entry.0 word ≡ b
        → option_map (λ (e : List ℕ × A). e.1) (cond b (Some entry) (find (λ (e : List ℕ × A). bytes_eq e.0 word) table)) ≡ Some x
        → (meaning table word ≡ Some x → P word x) → P word x
    by_test true t e1 later = let is : entry.1 ≡ x = cc in subst (λ (y : A). P word y) is (subst (λ (w : List ℕ). P w entry.1) (same_word entry.0 word t) first)
    by_test false f e1 later = later e1

-- A type that is read is spelt by its name.
type_said : (word : List ℕ) (kind : SockType) → type_of word ≡ Some kind → word ≡ type_name kind
type_said = meaning_said (λ word kind. word ≡ type_name kind) types (refl, (refl, (refl, tt)))

-- The name of a type is read as that type.
type_read : (kind : SockType) → type_of (type_name kind) ≡ Some kind
type_read Stream = refl
type_read Seqpacket = refl
type_read Dgram = refl

-- Ends that are read are spelt by their name.
how_said : (word : List ℕ) (ends : Shutdown) → how_of word ≡ Some ends → word ≡ how_name ends
how_said = meaning_said (λ word ends. word ≡ how_name ends) hows (refl, (refl, (refl, tt)))

-- The name of ends is read as those ends.
how_read : (ends : Shutdown) → how_of (how_name ends) ≡ Some ends
how_read shutdown.Read = refl
how_read shutdown.Write = refl
how_read shutdown.Both = refl

-- A version that is read is named by its word.
version_said : (word : List ℕ) (v : Version) → version_of word ≡ Some v → IsVersion word v
version_said = meaning_said IsVersion versions (refl, (refl, tt))

-- The word of a version is read as that version.
version_read : (word : List ℕ) (v : Version) → IsVersion word v → version_of word ≡ Some v
version_read word kinds.Unknown says = absurd says
version_read word kinds.First says = absurd says
version_read word kinds.Second says = rw says refl
version_read word kinds.Third says = rw says refl

-- The word of a version is printable.
version_printable : (word : List ℕ) (v : Version) → IsVersion word v → all_printable word ≡ true
version_printable word kinds.Unknown says = absurd says
version_printable word kinds.First says = absurd says
version_printable word kinds.Second says = rw says refl
version_printable word kinds.Third says = rw says refl

-- A word that is read is one that the table has for its value.
word_said : (k : Kind) (word : List ℕ) (v : Value k) → word_value k word ≡ Some v → SaysWord k word v
word_said number word v e = number_said word v e
word_said sockets word v e = type_said word v e
word_said name word v e = guarded (all_printable word) word v e
word_said payload word v e = payload_said word v e
word_said how word v e = how_said word v e
word_said version word v e = version_said word v e

-- A word that the table has for a value is read so.
word_read : (k : Kind) (word : List ℕ) (v : Value k) → SaysWord k word v → word_value k word ≡ Some v
word_read number word v says = number_read word v says
word_read sockets word v says = rw says (type_read v)
word_read name word v (printable, is) = rw printable (ap Some is)
word_read payload word v says = payload_read word v says
word_read how word v says = rw says (how_read v)
word_read version word v says = version_read word v says

-- A word of the table is printable.
word_printable : (k : Kind) (word : List ℕ) (v : Value k) → SaysWord k word v → all_printable word ≡ true
word_printable number word v says = number_printable word v says
word_printable sockets word v says = rw says (type_printable v)
word_printable name word v (printable, is) = printable
word_printable payload word v says = payload_printable word v says
word_printable how word v says = rw says (how_printable v)
word_printable version word v says = version_printable word v says

-- ---- priv

-- A privilege that is read is spelt as in the table.
privilege_said : (words : List (List ℕ)) (p : Bool) → privilege_of words ≡ Some p → IsPrivilege words p
privilege_said [] p e = let is : false ≡ p = cc in rw (← is) refl
privilege_said (word ∷ words) p e =
    let (test, same) = allowed (bytes_eq word (codes "priv")) (at_end true words) p e in
    let (none, is) = ended true p words same in
    rw (← is) (ap (λ (w : List ℕ). w ∷ words) (same_word word (codes "priv") test) ∙ ap (λ (ws : List (List ℕ)). codes "priv" ∷ ws) none)

-- A privilege spelt as in the table is read so.
privilege_read : (words : List (List ℕ)) (p : Bool) → IsPrivilege words p → privilege_of words ≡ Some p
privilege_read words false e = rw e refl
privilege_read words true e = rw e refl

-- The words of a privilege are printable.
privilege_printable : (words : List (List ℕ)) (p : Bool) → IsPrivilege words p → words_printable words ≡ true
privilege_printable words false e = rw e refl
privilege_printable words true e = rw e refl

-- ---- forms

-- Words that are read by a form are in the form.
pub form_said : {A : Type 0} (form : Form A) (words : List (List ℕ)) (x : A) → read_form form words ≡ Some x → SaysForm form words x
form_said (end makes) words x e = ended makes x words e
form_said (privilege makes) words x e = let (p, (e1, is)) = mapped makes (privilege_of words) x e in (p, (privilege_said words p e1, is))
form_said (items makes) words x e = let (fds, (e1, is)) = mapped makes (attached_of words) x e in (fds, (attached_said words fds e1, is))
form_said (k ◂ form) [] x e = cc
form_said (k ◂ form) (word ∷ words) x e =
    let (found, (e1, e2)) = bound (value_in k (word ∷ words)) (λ found. read_form (form found.0) found.1) x e in
    let (v, (e3, is)) = mapped (λ v. (v, words)) (word_value k word) found e1 in
    (v, (word_said k word v e3, form_said (form v) words x (subst (λ (found : Value k × List (List ℕ)). read_form (form found.0) found.1 ≡ Some x) (sym is) e2)))

-- Words in a form are read so.
pub form_read : {A : Type 0} (form : Form A) (words : List (List ℕ)) (x : A) → SaysForm form words x → read_form form words ≡ Some x
form_read (end makes) words x (none, is) = rw none (ap Some is)
form_read (privilege makes) words x (p, (says, is)) = rw (privilege_read words p says) (ap Some is)
form_read (items makes) words x (fds, (says, is)) = rw (attached_read words fds says) (ap Some is)
form_read (k ◂ form) [] x says = absurd says
form_read (k ◂ form) (word ∷ words) x (v, (first, others)) = rw (word_read k word v first) (form_read (form v) words x others)

-- Words in a form are printable.
form_printable : {A : Type 0} (form : Form A) (words : List (List ℕ)) (x : A) → SaysForm form words x → words_printable words ≡ true
form_printable (end makes) words x (none, is) = rw none refl
form_printable (privilege makes) words x (p, (says, is)) = privilege_printable words p says
form_printable (items makes) words x (fds, (says, is)) = items_printable words fds says.1
form_printable (k ◂ form) [] x says = refl
form_printable (k ◂ form) (word ∷ words) x (v, (first, others)) = both_true (word_printable k word v first) (form_printable (form v) words x others)

-- ---- tables

-- A row that is found by a keyword has it.
pub named_said : {K A : Type 0} (row : K → FormRow A) (keys : List K) (word : List ℕ) (k : K) → row_named row keys word ≡ Some k → word ≡ (row k).0
named_said row [] word k e = cc
named_said row (key ∷ keys) word k e = elim (chosen (bytes_eq (row key).0 word) (Some key) (row_named row keys word) (Some k) e) [
  | inl (same, is) ↦ sym (same_word (row key).0 word same) ∙ ap (λ x. (row x).0) (same_Some key k is)
  | inr (other, later) ↦ named_said row keys word k later
]

-- Words that are read by a row are in one of the rows.
pub row_said : {K A : Type 0} (row : K → FormRow A) (keys : List K) (word : List ℕ) (words : List (List ℕ)) (x : A) → read_by row keys word words ≡ Some x → SaysRow row word words x
row_said row keys word words x e =
    let (k, (e1, e2)) = bound (row_named row keys word) (λ k. read_form (row k).1 words) x e in
    (k, named_said row keys word k e1, form_said (row k).1 words x e2)

-- Words in a row are read so.
pub row_read : {K A : Type 0} (row : K → FormRow A) (keys : List K) → ((k : K) → row_named row keys (row k).0 ≡ Some k) → (word : List ℕ) (words : List (List ℕ)) (x : A)
    → SaysRow row word words x → read_by row keys word words ≡ Some x
row_read row keys all word words x (k, is, says) = rw (is, all k) (form_read (row k).1 words x says)

-- Words in a row are printable.
pub row_printable : {K A : Type 0} (row : K → FormRow A) → ((k : K) → all_printable (row k).0 ≡ true) → (word : List ℕ) (words : List (List ℕ)) (x : A)
    → SaysRow row word words x → words_printable (word ∷ words) ≡ true
row_printable row all word words x (k, is, says) = both_true (ap all_printable is ∙ all k) (form_printable (row k).1 words x says)

-- Each keyword of a table passes a test.
abbrev pub keys_pass : {K A : Type 0} → (List ℕ → Bool) → (K → FormRow A) → List K → Bool
keys_pass test row [] = true
keys_pass test row (key ∷ keys) = test (row key).0 && keys_pass test row keys

-- A word that fails the test of a key is not the key.
other_word : (test : List ℕ → Bool) (key word : List ℕ) → test key ≡ true → test word ≡ false → bytes_eq key word ≡ false
other_word test key word passes fails = by (bytes_eq key word) refl
  where
    by : (b : Bool) → bytes_eq key word ≡ b → b ≡ false
    by true same = absurd (false≢true (sym fails ∙ ap test (sym (same_word key word same)) ∙ passes))
    by false other = refl

-- So a word that fails it is none.
pub no_key : {K A : Type 0} (test : List ℕ → Bool) (row : K → FormRow A) (keys : List K) (word : List ℕ) → keys_pass test row keys ≡ true → test word ≡ false → row_named row keys word ≡ None
no_key test row [] word pass fails = refl
no_key test row (key ∷ keys) word pass fails =
    let (first, others) = both (test (row key).0) (keys_pass test row keys) pass in
    rw (other_word test (row key).0 word first fails) (no_key test row keys word others fails)
