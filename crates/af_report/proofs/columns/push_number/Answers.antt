use Rattle.std.proofs.Common.{rules, ◌≡◌, ap, ◌∙◌}
use Rattle.std.specs.Fmt.{styled_decimal}
use Rattle.af_report.specs.Table.{right}
use Rattle.af_report.proofs.Widths.{number_written}
use Rattle.af_report.proofs.columns.push_number.Goals as goal

pub returns : goal.returns
returns c =
    let width = c.args.width in
    let n = c.args.number in
    let written : styled_decimal c.laid_out.result n ≡ right width n = ap (λ spec. styled_decimal spec n) c.laid_out.ensures ∙ number_written width c.requires n in
    rw (← written) (search rules)
