use Rattle.std.proofs.Common.{◌≡◌, ◌<◌, length, rules, sym, ◌∙◌}
use Rattle.std.proofs.lemmas.Bool.{false≢true}
use Rattle.scmgc.proofs.PlayedLines.{line_goes, line_over}
use Rattle.scmgc.proofs.play.session.play_line.Goals as goal

pub returns-in_err-write_prompt-clause-more : goal.returns-in_err-write_prompt-clause-more
returns-in_err-write_prompt-clause-more g c = search rules

pub returns-in_err-write_prompt-clause-over : goal.returns-in_err-write_prompt-clause-over
returns-in_err-write_prompt-clause-over g c = search rules

pub returns-in_err-read-clause-more : goal.returns-in_err-read-clause-more
returns-in_err-read-clause-more g c = search rules

pub returns-in_err-read-clause-over : goal.returns-in_err-read-clause-over
returns-in_err-read-clause-over g c = search rules

pub returns-in_err-play_read-clause-more : goal.returns-in_err-play_read-clause-more
returns-in_err-play_read-clause-more g c = search rules

pub returns-in_err-play_read-clause-over : goal.returns-in_err-play_read-clause-over
returns-in_err-play_read-clause-over g c = search rules

pub returns-then-is_empty-clause-more : goal.returns-then-is_empty-clause-more
returns-then-is_empty-clause-more g c = λ e. absurd (false≢true e)

pub returns-then-is_empty-clause-over : goal.returns-then-is_empty-clause-over
returns-then-is_empty-clause-over g c = λ e input told.
    let none : length c.in_ok-read.read.items ≡ 0 = search rules in
    line_over c.args.style c.args.number input c.in_ok-read.read.items _ _ _ (c.in_ok-read.ensures.line input told) none
    (c.in_ok-read.ensures.rest input told) c.in_ok-write_prompt.ensures

pub returns-clause-more : goal.returns-clause-more
returns-clause-more g c = λ e input told.
    let some : 0 < length c.as_slice.result.now = search rules in
    line_goes c.args.style c.args.number _ _ input c.as_slice.result.now _ _ _ _ (c.as_slice.ensures.value ∙ c.in_ok-read.ensures.line input told) some
    (c.in_ok-read.ensures.rest input told) c.in_ok-write_prompt.ensures c.in_ok-play_read.ensures

pub returns-clause-over : goal.returns-clause-over
returns-clause-over g c = λ e. absurd (false≢true (sym e))
