use Rattle.std.proofs.Common.{◌≡◌, ◌+◌, ◌<◌, take, drop, get_or, length, false, sym, ap, ◌∙◌, rules, arith}
use Rattle.std.proofs.lemmas.List.{take_more, drop_more}
use Rattle.scm_lines.specs.Words.{is_blank}
use Rattle.scm_lines.proofs.WordLemmas.{words_after, words_after-more}
use Rattle.scm_lines.proofs.words.cut_word.Goals as goal

pub loop-end-preserved : goal.loop-end-preserved
loop-end-preserved c =
    let i = c.loop-end.end in
    let bytes = c.args.bytes.now in
    let within : i < length bytes = c.loop-end-test.true in
    let no_blank : is_blank (get_or bytes i 0) ≡ false = search rules in (
      c.loop-end.invariant.0 ∙ ap (λ r. words_after (take i bytes) r) (drop_more bytes i 0 within)
          ∙ words_after-more (take i bytes) (get_or bytes i 0) (drop (i + 1) bytes) no_blank
          ∙ ap (λ f. words_after f (drop (i + 1) bytes)) (sym (take_more bytes i 0 within)),
      omega arith,
      omega arith,
    )
