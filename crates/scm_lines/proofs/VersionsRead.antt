-- Which lines a script may have, by its version.
use Rattle.std.proofs.Common.{◌≡◌, ℕ, ◌≤◌, Bool, true, false, List, Option, Some, None, refl, sym, ap, ◌∙◌, subst}
use Rattle.std.specs.Prelude.{nat_le, if◌then◌else◌}
use Rattle.std.proofs.Math.Nat.{le_trans}
use Rattle.std.proofs.lemmas.Bool.{false≢true, le-leb, leb-true}
use Rattle.std.proofs.lemmas.Option.{none-some, same_Some}
use Rattle.af_base.specs.declared.events.Event.TheVariants as event
use Rattle.af_base.specs.declared.events.Step.{Step}
use Rattle.scm_lines.specs.Meaning.{line_of, ◌>>=◌}
use Rattle.scm_lines.specs.Versions.{allowed_in, first_number_of, has_line, is_of_first, is_unknown, number_of, read_in}
use Rattle.scm_lines.specs.declared.line.Line.{Line}
use Rattle.scm_lines.specs.declared.line.Line.TheVariants as line
use Rattle.scm_lines.specs.declared.version.Version.{Version}
use Rattle.scm_lines.specs.declared.version.Version.TheVariants as version

-- The number of a script's version is at least 1.
from_first : (v : Version) → 1 ≤ number_of v
from_first version.Unknown = leb-true 1 1 refl
from_first version.First = leb-true 1 1 refl
from_first version.Second = leb-true 1 2 refl
from_first version.Third = leb-true 1 3 refl

-- A later version has each step of a version.
has_later : (does : Step) (old new : ℕ) → old ≤ new → nat_le (first_number_of does) old ≡ true → nat_le (first_number_of does) new ≡ true
has_later does old new later e = le-leb (first_number_of does) new (le_trans (leb-true (first_number_of does) old e) later)

-- A line of version 1 may come in any script.
has_first : (v : Version) (said : Line) → is_of_first said ≡ true → has_line v said ≡ true
has_first v line.Silence e = refl
has_first v (line.Version named) e = absurd (false≢true e)
has_first v (line.Event (event.Spawn uid nofile privileged)) e = refl
has_first v (line.Event (event.Proc pid does)) e = has_later does 1 (number_of v) (from_first v) e
has_first v (line.Event event.Begin) e = refl
has_first v (line.Event (event.Slice budget)) e = refl
has_first v (line.Event event.Pass) e = refl
has_first v (line.Report report) e = refl

-- A script of version 1 may have no other.
first_has : (said : Line) → has_line version.First said ≡ true → is_of_first said ≡ true
first_has line.Silence e = refl
first_has (line.Version named) e = absurd (false≢true e)
first_has (line.Event (event.Spawn uid nofile privileged)) e = refl
first_has (line.Event (event.Proc pid does)) e = e
first_has (line.Event event.Begin) e = refl
first_has (line.Event (event.Slice budget)) e = refl
first_has (line.Event event.Pass) e = refl
first_has (line.Report report) e = refl

-- A line that was found is read where the script may have it.
found_said : (found said : Line) (b : Bool) → has_line version.First found ≡ b → (if b then Some found else None) ≡ Some said → is_of_first said ≡ true
found_said found said true has e = subst (λ x. is_of_first x ≡ true) (same_Some found said e) (first_has found has)
found_said found said false has e = absurd (none-some said e)

-- A line of version 1 is read the same in any script.
pub first_in_any : (v : Version) (bytes : List ℕ) (said : Line) → is_of_first said ≡ true → line_of bytes ≡ Some said → read_in v bytes ≡ Some said
first_in_any v bytes said first e =
    ap (λ (o : Option Line). o >>= λ s. if has_line v s then Some s else None) e ∙ ap (λ (b : Bool). if b then Some said else None) (has_first v said first)

-- A line that is read in a script of version 1 is one of version 1.
pub first_alone : (bytes : List ℕ) (said : Line) → read_in version.First bytes ≡ Some said → is_of_first said ≡ true
first_alone bytes said = by (line_of bytes) where
  by : (o : Option Line) → (o >>= λ s. if has_line version.First s then Some s else None) ≡ Some said → is_of_first said ≡ true
  by None e = absurd (none-some said e)
  by (Some found) e = found_said found said (has_line version.First found) refl e

-- A script of a later version may have each line of a version, once the version is known.
has_known : (v w : Version) (said : Line) → is_unknown v ≡ false → number_of v ≤ number_of w → has_line v said ≡ true → has_line w said ≡ true
has_known v w line.Silence known later e = refl
has_known v w (line.Version named) known later e = absurd (false≢true (sym known ∙ e))
has_known v w (line.Event (event.Spawn uid nofile privileged)) known later e = refl
has_known v w (line.Event (event.Proc pid does)) known later e = has_later does (number_of v) (number_of w) later e
has_known v w (line.Event event.Begin) known later e = refl
has_known v w (line.Event (event.Slice budget)) known later e = refl
has_known v w (line.Event event.Pass) known later e = refl
has_known v w (line.Report report) known later e = refl

-- So a line that a script may have is read the same in one of a later version.
pub later_reads : (v w : Version) (bytes : List ℕ) (said : Line) → is_unknown v ≡ false → number_of v ≤ number_of w → read_in v bytes ≡ Some said → read_in w bytes ≡ Some said
later_reads v w bytes said known later = by (line_of bytes) where
  by : (o : Option Line) → allowed_in v o ≡ Some said → allowed_in w o ≡ Some said
  by None e = absurd (none-some said e)
  by (Some found) e = by_test (has_line v found) refl e where
    by_test : (b : Bool) → has_line v found ≡ b → (if b then Some found else None) ≡ Some said → (if has_line w found then Some found else None) ≡ Some said
    by_test true has same = rw (has_known v w found known later has) same
    by_test false has same = absurd (none-some said same)
