use Rattle.std.proofs.Common.{rules, ◌≡◌, ap, ◌∙◌, arith}
use Rattle.std.specs.Fmt.{styled_text}
use Rattle.af_report.specs.Table.{left}
use Rattle.af_report.proofs.Widths.{word_written}
use Rattle.af_report.proofs.columns.push_word.Goals as goal

pub returns : goal.returns
returns c =
    let width = c.args.width in
    let word = c.args.word.now in
    let written : styled_text c.laid_out.result word ≡ left width word = ap (λ spec. styled_text spec word) c.laid_out.ensures ∙ word_written width c.requires word (omega arith) in
    rw (← written) (search rules)
