-- A line is read just as the tables say.
use Rattle.std.proofs.Common.{◌≡◌, ◌⊎◌, ℕ, ◌≤◌, ◌==◌, List, [], ◌∷◌, Bool, true, false, cond, length, nat_lt, Option, Some, None, refl, ap, ◌∙◌, inl, inr, arith}
use Rattle.std.specs.Cmp.Derive.{both_true}
use Rattle.std.proofs.lemmas.Grind.{common_steps}
use Rattle.af_base.specs.declared.events.Step.{Step}
use Rattle.scm_lines.specs.Words.{all_printable, begins_comment, ends_word, is_blank, is_comment, onto_word, words_of}
use Rattle.scm_lines.specs.Numbers.{word_number}
use Rattle.scm_lines.specs.Forms.{keywords, line_row, verb_row, verbs}
use Rattle.scm_lines.specs.Meaning.{form_of, line_behind, line_of, step_of, words_say}
use Rattle.scm_lines.specs.Says.{IsLine, Says, SaysStep}
use Rattle.scm_lines.specs.declared.line.Line.{Line}
use Rattle.scm_lines.specs.declared.line.Line.TheVariants as line
use Rattle.scm_lines.specs.declared.line.TheConstants.{MAX_LINE}
use Rattle.scm_lines.proofs.Choices.{allowed, chosen, mapped}
use Rattle.scm_lines.proofs.NumberLemmas.{number_read, number_said}
use Rattle.scm_lines.proofs.WordsPrintable.{line_printable, number_printable, words_printable}
use Rattle.scm_lines.proofs.FormLemmas.{row_printable, row_read, row_said}
use Rattle.scm_lines.proofs.KeywordLemmas.{keyword_found, keyword_letters, keyword_printable, verb_found, verb_printable}

-- ---- steps

-- Words that are read as a step are in the table.
step_said : (words : List (List ℕ)) (does : Step) → step_of words ≡ Some does → SaysStep words does
unfolding step_of
step_said [] does e = cc
step_said (word ∷ words) does e = row_said verb_row verbs word words does e

-- A step in the table is read so.
step_read : (words : List (List ℕ)) (does : Step) → SaysStep words does → step_of words ≡ Some does
unfolding step_of
step_read [] does says = absurd says
step_read (word ∷ words) does says = row_read verb_row verbs verb_found word words does says

-- The words of a step are printable.
step_printable : (words : List (List ℕ)) (does : Step) → SaysStep words does → words_printable words ≡ true
step_printable [] does says = absurd says
step_printable (word ∷ words) does says = row_printable verb_row verb_printable word words does says

-- ---- the words of a line

-- Words that are read as a line are in the table.
words_said : (words : List (List ℕ)) (said : Line) → words_say words ≡ Some said → Says words said
unfolding form_of
words_said [] said e = cc
words_said (word ∷ words) said e = by (word_number word) refl e
  where
    by : (n : Option ℕ) → word_number word ≡ n → line_behind n word words ≡ Some said → Says (word ∷ words) said
    by (Some pid) number e = let (does, (e1, is)) = mapped _ (step_of words) said e in inl (pid, does, number_said word pid number, step_said words does e1, is)
    by None other e = inr (row_said line_row keywords word words said e)

-- A line in the table is read so.
words_read : (words : List (List ℕ)) (said : Line) → Says words said → words_say words ≡ Some said
unfolding form_of
words_read [] said e = ap Some e
words_read (word ∷ words) said (inl (pid, does, number, says, is)) = rw (number_read word pid number, step_read words does says) (ap Some is)
words_read (word ∷ words) said (inr (k, is, says)) =
    rw (ap word_number is ∙ keyword_letters k) (row_read line_row keywords keyword_found word words said (k, is, says))

-- The words of a line are printable.
says_printable : (words : List (List ℕ)) (said : Line) → Says words said → words_printable words ≡ true
says_printable [] said e = refl
says_printable (word ∷ words) said (inl (pid, does, number, says, is)) = both_true (number_printable word pid number) (step_printable words does says)
says_printable (word ∷ words) said (inr says) = row_printable line_row keyword_printable word words said says

-- ---- lines

-- Bytes that are read as a line are one of the table.
pub line_said : (bytes : List ℕ) (said : Line) → line_of bytes ≡ Some said → IsLine bytes said
unfolding line_of
line_said bytes said e = elim (chosen (nat_lt MAX_LINE (length bytes)) None _ _ e) [
  | inl (long, e1) ↦ cc
  | inr (t, e2) ↦ (within (length bytes) t, by_comment e2)
]
  where
    within : (n : ℕ) → nat_lt MAX_LINE n ≡ false → n ≤ MAX_LINE
    within n t = grind (arith, common_steps)

    by_comment : cond (is_comment bytes) (Some line.Silence) (cond (all_printable bytes) (words_say (words_of bytes)) None) ≡ Some said
        → ((is_comment bytes ≡ true) × (said ≡ line.Silence)) ⊎ ((is_comment bytes ≡ false) × (all_printable bytes ≡ true) × Says (words_of bytes) said)
    by_comment e = elim (chosen (is_comment bytes) _ _ _ e) [
      | inl (t, e1) ↦ inl (t, cc)
      | inr (f, e2) ↦ let (printable, e3) = allowed (all_printable bytes) _ said e2 in inr (f, printable, words_said (words_of bytes) said e3)
    ]

-- A line within the limit passes its test.
within_line : (n : ℕ) → n ≤ MAX_LINE → nat_lt MAX_LINE n ≡ false
within_line n h = grind (arith, common_steps)

-- A line of the table is read so.
pub line_read : (bytes : List ℕ) (said : Line) → IsLine bytes said → line_of bytes ≡ Some said
unfolding line_of
line_read bytes said (short, which) =
    let within = within_line (length bytes) short in
    elim which [
      | inl (t, e) ↦ rw (within, t, e) refl
      | inr (f, printable, says) ↦ rw (within, f, printable, words_read (words_of bytes) said says) refl
    ]

-- ---- lines by their words

-- The first word begins with #.
abbrev pub is_comment_of : List (List ℕ) → Bool
is_comment_of [] = false
is_comment_of (word ∷ words) = begins_comment word

-- A comment is known by its first word.
pub comment_by_word : (bytes : List ℕ) → is_comment bytes ≡ is_comment_of (words_of bytes)
comment_by_word [] = refl
comment_by_word (b ∷ bytes) = by_blank (is_blank b) (comment_by_word bytes)
  where
    onto : (words : List (List ℕ)) → (b == 35) ≡ is_comment_of (onto_word b words)
    onto [] = refl
    onto (word ∷ words) = refl

    by_end : (ends : Bool) → (b == 35) ≡ is_comment_of (cond ends ((b ∷ []) ∷ words_of bytes) (onto_word b (words_of bytes)))
    by_end true = refl
    by_end false = onto (words_of bytes)

    by_blank : (blank : Bool) → is_comment bytes ≡ is_comment_of (words_of bytes)
        → cond blank (is_comment bytes) (b == 35) ≡ is_comment_of (cond blank (words_of bytes) (cond (ends_word bytes) ((b ∷ []) ∷ words_of bytes) (onto_word b (words_of bytes))))
    by_blank true rest = rest
    by_blank false rest = by_end (ends_word bytes)

-- Words that are read have printable bytes.
printable_alone : (bytes : List ℕ) → cond (all_printable bytes) (words_say (words_of bytes)) None ≡ words_say (words_of bytes)
printable_alone bytes = by (words_say (words_of bytes)) refl
  where
    either : (b : Bool) (same : Option Line) → cond b same same ≡ same
    either true same = refl
    either false same = refl

    by : (read : Option Line) → words_say (words_of bytes) ≡ read → cond (all_printable bytes) read None ≡ read
    by None e = either (all_printable bytes) None
    by (Some said) e = ap (λ b. cond b (Some said) None) (line_printable bytes ∙ says_printable (words_of bytes) said (words_said (words_of bytes) said e))

-- So a line is read by its words alone.
pub line_by_words : (bytes : List ℕ) → line_of bytes
    ≡ cond (nat_lt MAX_LINE (length bytes)) None (cond (is_comment_of (words_of bytes)) (Some line.Silence) (words_say (words_of bytes)))
unfolding line_of
line_by_words bytes =
    ap (λ (o : Option Line). cond (nat_lt MAX_LINE (length bytes)) None (cond (is_comment bytes) (Some line.Silence) o)) (printable_alone bytes)
    ∙ ap (λ b. cond (nat_lt MAX_LINE (length bytes)) None (cond b (Some line.Silence) (words_say (words_of bytes)))) (comment_by_word bytes)

-- A short line that is no comment says what its words say.
pub line_said_by_words : (bytes : List ℕ) → length bytes ≤ MAX_LINE → is_comment_of (words_of bytes) ≡ false → line_of bytes ≡ words_say (words_of bytes)
line_said_by_words bytes short other =
    line_by_words bytes
    ∙ ap (λ b. cond b None (cond (is_comment_of (words_of bytes)) (Some line.Silence) (words_say (words_of bytes)))) (within_line (length bytes) short)
    ∙ ap (λ b. cond b (Some line.Silence) (words_say (words_of bytes))) other
