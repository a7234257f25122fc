use Rattle.std.proofs.Common.{◌≡◌, ℕ, ◌+◌, ◌-◌, ◌*◌, ◌^◌, ◌<◌, ◌≤◌, ◌++◌, [], ◌∷◌, length, true, false, take, drop, get_or, rules, arith, sym, ap, ◌∙◌}
use native.Mathlib.Nat.{pow-suc}
use Rattle.std.proofs.lemmas.List.{take_more, drop_more}
use Rattle.scm_lines.specs.Numbers.{is_digit}
use Rattle.scm_lines.specs.Words.{is_blank}
use Rattle.scm_lines.proofs.NumberLemmas.{digits_more, value_more}
use Rattle.scm_lines.proofs.WordLemmas.{words_after, words_after-more}
use Rattle.scm_lines.proofs.numbers.short_number_in.Goals as goal

pub overflow_mul-value : goal.overflow_mul-value
overflow_mul-value c =
    let few : c.loop-end.end + 1 ≤ 9 = omega (arith, c.if-end-lt-FEW_DIGITS.true) in
    let small : 10 ^ (c.loop-end.end + 1) ≤ 10 ^ 9 = search rules in
    let step = pow-suc 10 c.loop-end.end in
    let below = c.loop-end.invariant.below in
    grind (arith, small, step, below, c.is_ascii_digit.ensures.bound)

pub overflow_add-value : goal.overflow_add-value
overflow_add-value c =
    let few : c.loop-end.end + 1 ≤ 9 = omega (arith, c.if-end-lt-FEW_DIGITS.true) in
    let small : 10 ^ (c.loop-end.end + 1) ≤ 10 ^ 9 = search rules in
    let step = pow-suc 10 c.loop-end.end in
    let below = c.loop-end.invariant.below in
    grind (arith, small, step, below, c.is_ascii_digit.ensures.bound)

pub loop-end-preserved : goal.loop-end-preserved
loop-end-preserved c =
    let end = c.loop-end.end in
    let start = c.without_space-start.result.now in
    let digit = get_or start end 0 in
    let within : end < length start = c.loop-end-test.true in
    let is : is_digit digit ≡ true = search rules in
    let no_blank : is_blank digit ≡ false = search rules in
    let front : take (end + 1) start ≡ take end start ++ digit ∷ [] = take_more start end 0 within in
    let gave : c.from.result ≡ digit - 48 = search rules in
    let low : digit - 48 < 10 = search rules in
    record {
      words = c.loop-end.invariant.words ∙ ap (λ r. words_after (take end start) r) (drop_more start end 0 within)
          ∙ words_after-more (take end start) digit (drop (end + 1) start) no_blank
          ∙ ap (λ f. words_after f (drop (end + 1) start)) (sym front);
      value = rw front (rw gave (ap (λ (v : ℕ). v * 10 + (digit - 48)) c.loop-end.invariant.value ∙ sym (value_more 0 (take end start) digit)));
      digits = rw front (digits_more (take end start) digit c.loop-end.invariant.digits is);
      first = c.loop-end.invariant.first;
      below = let below = c.loop-end.invariant.below in let step = pow-suc 10 end in grind (arith, below, step, gave, low);
      some = omega arith;
      few = omega (arith, c.if-end-lt-FEW_DIGITS.true);
      within = omega (arith, within);
    }
