-- Which lines can be read now, by their words.
use Rattle.std.proofs.Common.{◌≡◌, ℕ, ◌≤◌, ◌<◌, List, [], ◌∷◌, true, false, length, nat_lt, is_none, refl, arith}
use Rattle.std.proofs.lemmas.Grind.{common_steps}
use Rattle.scm_lines.specs.Words.{all_printable, begins_comment, words_of}
use Rattle.scm_lines.specs.Fitting.{form_in}
use Rattle.scm_lines.specs.Meaning.{line_of}
use Rattle.scm_lines.specs.Versions.{read_in}
use Rattle.scm_lines.specs.declared.line.TheConstants.{MAX_LINE}
use Rattle.scm_lines.specs.declared.version.Version.{Version}
use Rattle.scm_lines.proofs.LineLemmas.{comment_by_word, line_by_words}

-- A number up to the limit passes the test of length.
within : (n : ℕ) → n ≤ MAX_LINE → nat_lt MAX_LINE n ≡ false
within n h = grind (arith, common_steps)

-- A number above the limit fails the test of length.
beyond : (n : ℕ) → MAX_LINE < n → nat_lt MAX_LINE n ≡ true
beyond n h = grind (arith, common_steps)

-- A line of too many bytes cannot be read.
pub too_long : (v : Version) (bytes : List ℕ) → MAX_LINE < length bytes → true ≡ is_none (read_in v bytes)
unfolding line_of
too_long v bytes h = rw (beyond (length bytes) h) refl

-- A line without words can be read.
pub silent : (v : Version) (bytes : List ℕ) → length bytes ≤ MAX_LINE → words_of bytes ≡ [] → false ≡ is_none (read_in v bytes)
silent v bytes short none = rw (line_by_words bytes, within (length bytes) short, none) refl

-- So can a comment.
pub comment : (v : Version) (bytes word : List ℕ) (words : List (List ℕ)) → length bytes ≤ MAX_LINE → words_of bytes ≡ word ∷ words → begins_comment word ≡ true
    → false ≡ is_none (read_in v bytes)
comment v bytes word words short parted begins = rw (line_by_words bytes, within (length bytes) short, parted, begins) refl

-- No other line can that has a byte that is not printable.
pub not_printable : (v : Version) (bytes word : List ℕ) (words : List (List ℕ)) → length bytes ≤ MAX_LINE → words_of bytes ≡ word ∷ words → begins_comment word ≡ false
    → all_printable bytes ≡ false → true ≡ is_none (read_in v bytes)
unfolding line_of
not_printable v bytes word words short parted other fails =
    rw (within (length bytes) short, comment_by_word bytes, parted, other, fails) refl

-- It can where its words are of a form that the version has.
pub by_form : (v : Version) (bytes word : List ℕ) (words : List (List ℕ)) → length bytes ≤ MAX_LINE → words_of bytes ≡ word ∷ words → begins_comment word ≡ false
    → is_none (read_in v bytes) ≡ is_none (form_in v word words)
unfolding form_in
by_form v bytes word words short parted other = rw (line_by_words bytes, within (length bytes) short, parted, other) refl
