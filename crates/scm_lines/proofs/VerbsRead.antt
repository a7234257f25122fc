-- A line of a process is read by the row of its verb.
use Rattle.std.proofs.Common.{◌≡◌, ℕ, ◌≤◌, ◌==◌, ◌&&◌, List, [], ◌∷◌, Bool, true, false, cond, length, Option, Some, None, refl, sym, ap, ◌∙◌, subst, arith}
use Rattle.std.specs.Option.{option_map}
use Rattle.std.proofs.lemmas.Grind.{common_steps}
use Rattle.std.proofs.lemmas.Option.{same_Some}
use Rattle.af_base.specs.declared.events.Step.{Step}
use Rattle.af_base.specs.declared.events.Event.TheVariants as event
use Rattle.scm_lines.specs.Words.{begins_comment, words_of, ◌>>=◌}
use Rattle.scm_lines.specs.Numbers.{all_digits, is_digit, first_number, word_number}
use Rattle.scm_lines.specs.Fitting.{has_types, has_verb}
use Rattle.scm_lines.specs.Forms.{row_named, read_form, verb_row, verbs}
use Rattle.scm_lines.specs.Meaning.{form_of, line_behind, step_of, words_say}
use Rattle.scm_lines.specs.Versions.{allowed_in, has_line, has_step, read_in}
use Rattle.scm_lines.specs.declared.keywords.Verb.{Verb}
use Rattle.scm_lines.specs.declared.line.Line.{Line}
use Rattle.scm_lines.specs.declared.line.Line.TheVariants as line
use Rattle.scm_lines.specs.declared.line.TheConstants.{MAX_LINE}
use Rattle.scm_lines.specs.declared.version.Version.{Version}
use Rattle.af_base.proofs.DerivedEquality.{both}
use Rattle.scm_lines.proofs.NumberLemmas.{number_digits, number_said}
use Rattle.scm_lines.proofs.LineLemmas.{is_comment_of, line_said_by_words}
use Rattle.scm_lines.proofs.VersionsFit.{verb_makes}

-- A line that begins with a number is no comment.
not_comment : (w : List ℕ) (n : ℕ) → word_number w ≡ Some n → begins_comment w ≡ false
not_comment [] n e = refl
not_comment (b ∷ bytes) n e = above b (both (is_digit b) (all_digits bytes) (number_digits (b ∷ bytes) n (number_said (b ∷ bytes) n e))).0
  where
    above : (b : ℕ) → is_digit b ≡ true → (b == 35) ≡ false
    above b h = grind (arith, common_steps)

-- A number is found, and these words behind it.
abbrev Counts : Option (ℕ × List (List ℕ)) → ℕ → List (List ℕ) → Type 0
Counts found pid words = ◌≡◌ {A = Option (ℕ × List (List ℕ))} (Some (pid, words)) found

-- A line that begins with a number is no comment.
words_plain : (ws words : List (List ℕ)) (pid : ℕ) → Counts (first_number ws) pid words → is_comment_of ws ≡ false
words_plain [] words pid e = refl
words_plain (w ∷ others) words pid e = by (word_number w) refl e
  where
    by : (n : Option ℕ) → word_number w ≡ n → Counts (option_map (λ n. (n, others)) n) pid words → begins_comment w ≡ false
    by None is e = cc
    by (Some m) is e = not_comment w m is

-- The line of a process that does this.
abbrev does_line : ℕ → Step → Line
does_line pid does = line.Event (event.Proc pid does)

-- Words that a number begins say what the process does.
words_process : (ws words : List (List ℕ)) (pid : ℕ) → Counts (first_number ws) pid words → words_say ws ≡ option_map (does_line pid) (step_of words)
unfolding form_of
words_process [] words pid e = cc
words_process (w ∷ others) words pid e = by (word_number w) e
  where
    by : (n : Option ℕ) → Counts (option_map (λ n. (n, others)) n) pid words → line_behind n w others ≡ option_map (does_line pid) (step_of words)
    by None e = cc
    by (Some m) e = subst (λ (t : ℕ × List (List ℕ)). option_map (does_line m) (step_of others) ≡ option_map (does_line t.0) (step_of t.1)) (sym (same_Some _ _ e)) refl

-- The verb says by which row.
words_verb : (word : List ℕ) (words more : List (List ℕ)) (k : Verb) → words ≡ word ∷ more → Some k ≡ row_named verb_row verbs word
    → step_of words ≡ read_form (verb_row k).1 more
unfolding step_of
words_verb word words more k parted is = rw (parted, ← is) refl

-- A step of a verb that the version has is read.
passes : (v : Version) (pid : ℕ) (b : Bool) (r : Option Step)
    → ((does : Step) → r ≡ Some does → has_step v does ≡ b) → b ≡ true
    → (option_map (does_line pid) r >>= λ said. cond (has_line v said) (Some said) None) ≡ option_map (does_line pid) r
passes v pid b None same has = refl
passes v pid b (Some does) same has = rw (same does refl, has) refl

-- So a line is read by the row of its verb, where the version has the verb and the type of its words.
pub read_by_verb : (v : Version) (bytes word : List ℕ) (words more : List (List ℕ)) (pid : ℕ) (k : Verb)
    → length bytes ≤ MAX_LINE → Counts (first_number (words_of bytes)) pid words
    → words ≡ word ∷ more → Some k ≡ row_named verb_row verbs word → has_verb v k ≡ true
    → has_types v k more ≡ true
    → read_in v bytes ≡ option_map (does_line pid) (read_form (verb_row k).1 more)
read_by_verb v bytes word words more pid k short counted parted is has typed =
    let row = read_form (verb_row k).1 more in
    let said : words_say (words_of bytes) ≡ option_map (does_line pid) row =
    words_process (words_of bytes) words pid counted ∙ ap (option_map (does_line pid)) (words_verb word words more k parted is) in
    let whole = line_said_by_words bytes short (words_plain (words_of bytes) words pid counted) ∙ said in
    ap (allowed_in v) whole
    ∙ passes v pid (has_types v k more
    && has_verb v k) row (verb_makes v k more) (rw (typed, has) refl)
