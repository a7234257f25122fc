-- The text that the library's widths write.
use Rattle.std.proofs.Common.{◌≡◌, ◌≤◌, ◌<◌, ◌^◌, ℕ, zero, suc, ◌-◌, Bool, true, false, ◌&&◌, cond, List, [], ◌∷◌, length, replicate, refl, ap, ◌∙◌, append-nil, arith}
use Rattle.std.specs.List.{repeat}
use Rattle.std.specs.Fmt.{char_count, decimal, format_spec, is_char_start, padded, padded_integral, styled_decimal, styled_text, take_chars}
use Rattle.std.proofs.lemmas.Bool.{ne_eqb}
use Rattle.af_report.specs.Table.{left, right}

-- The fill is spaces.
repeat_space : (n : ℕ) → repeat {A = ℕ} n (32 ∷ []) ≡ replicate n 32
repeat_space zero = refl
repeat_space (suc n) = ap (λ spaces. 32 ∷ spaces) (repeat_space n)

-- No character, no width.
no_character : char_count [] ≡ 0
unfolding char_count
no_character = refl

-- A number is right-aligned.
pub right_written : (width n : ℕ) → padded_integral (format_spec 32 3 0 width (2 ^ 64 - 1)) false [] (decimal n) ≡ right width n
unfolding padded_integral lib.Utf8.encode
right_written width n =
    let digits = length (decimal n) in
    let short : width - digits - 0 - char_count [] ≡ width - digits = omega (arith, no_character) in
    let none : width - digits - (width - digits) ≡ 0 = omega arith in
    rw (short, none, repeat_space (width - digits)) (simp append-nil)

-- A choice between two equal values is that value.
same_both : {A : Type 0} (b : Bool) (x y z : A) → x ≡ z → y ≡ z → cond b x y ≡ z
same_both true x y z e f = e
same_both false x y z e f = f

-- A text that is no longer than that is not cut.
uncut : (n : ℕ) (text : List ℕ) → length text ≤ n → take_chars n text ≡ text
unfolding take_chars
uncut n [] short = refl
uncut n (b ∷ text) short = same_both (is_char_start b) _ _ _
    (ap (λ t. cond t [] (b ∷ take_chars (n - 1) text)) (ne_eqb n 0 (λ e. omega (arith, e))) ∙ ap (λ rest. b ∷ rest) (uncut (n - 1) text (omega arith)))
    (ap (λ rest. b ∷ rest) (uncut n text (omega arith)))

-- A word is left-aligned.
pub left_written : (width : ℕ) (word : List ℕ) → length word ≤ 2 ^ 64 - 1 → padded (format_spec 32 1 0 width (2 ^ 64 - 1)) word ≡ left width word
unfolding padded lib.Utf8.encode
left_written width word short =
    let all : width - char_count word - 0 ≡ width - char_count word = omega arith in
    rw (uncut (2 ^ 64 - 1) word short, all, repeat_space (width - char_count word)) refl

module _ (width : ℕ) (some : 0 < width) where
  -- The text of a number by a hole with such options.
  pub number_written : (n : ℕ) → styled_decimal (format_spec 32 3 0 width (2 ^ 64 - 1)) n ≡ right width n
  number_written n = ap (λ b. cond (b && true && true) (decimal n) (padded_integral (format_spec 32 3 0 width (2 ^ 64 - 1)) false [] (decimal n))) (ne_eqb width 0 (λ e. omega (arith, e, some))) ∙ right_written width n

  -- And of a word.
  pub word_written : (word : List ℕ) → length word ≤ 2 ^ 64 - 1 → styled_text (format_spec 32 1 0 width (2 ^ 64 - 1)) word ≡ left width word
  word_written word short = ap (λ b. cond (b && true) word (padded (format_spec 32 1 0 width (2 ^ 64 - 1)) word)) (ne_eqb width 0 (λ e. omega (arith, e, some))) ∙ left_written width word short
