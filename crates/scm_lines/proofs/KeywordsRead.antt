-- A line without a process is read by the row of its keyword.
use Rattle.std.proofs.Common.{◌≡◌, ℕ, ◌≤◌, List, ◌∷◌, ◌++◌, true, false, length, refl, ap, ◌∙◌}
use Rattle.scm_lines.specs.Words.{ends_word, words_of}
use Rattle.scm_lines.specs.Forms.{line_row, read_form}
use Rattle.scm_lines.specs.Meaning.{form_of, words_say}
use Rattle.scm_lines.specs.Versions.{allowed_in, read_in}
use Rattle.scm_lines.specs.declared.keywords.Keyword.{Keyword}
use Rattle.scm_lines.specs.declared.keywords.Keyword.TheVariants as keyword
use Rattle.scm_lines.specs.declared.line.TheConstants.{MAX_LINE}
use Rattle.scm_lines.specs.declared.version.Version.{Version}
use Rattle.scm_lines.proofs.KeywordLemmas.{keyword_found, keyword_letters, keyword_plain}
use Rattle.scm_lines.proofs.LineLemmas.{is_comment_of, line_said_by_words}

-- Words that a keyword begins say what its row reads.
words_row : (words more : List (List ℕ)) (k : Keyword) → words ≡ (line_row k).0 ∷ more → words_say words ≡ read_form (line_row k).1 more
unfolding form_of
words_row words more k parted = rw (parted, keyword_letters k, keyword_found k) refl

-- A keyword at the front is the first word, where a word ends behind it.
first_keyword : (k : Keyword) (rest : List ℕ) → ends_word rest ≡ true → words_of ((line_row k).0 ++ rest) ≡ (line_row k).0 ∷ words_of rest
first_keyword keyword.Spawn rest ends = rw ends refl
first_keyword other rest ends = rw ends refl

-- So a line is read by the row of the keyword at its front, where the version has the line.
pub read_by_keyword : (v : Version) (bytes rest : List ℕ) (k : Keyword)
    → length bytes ≤ MAX_LINE → bytes ≡ (line_row k).0 ++ rest → ends_word rest ≡ true
    → read_in v bytes ≡ allowed_in v (read_form (line_row k).1 (words_of rest))
read_by_keyword v bytes rest k short front ends =
    let parted : words_of bytes ≡ (line_row k).0 ∷ words_of rest = ap words_of front ∙ first_keyword k rest ends in
    let plain : is_comment_of (words_of bytes) ≡ false = ap is_comment_of parted ∙ keyword_plain k in
    ap (allowed_in v) (line_said_by_words bytes short plain ∙ words_row (words_of bytes) (words_of rest) k parted)
