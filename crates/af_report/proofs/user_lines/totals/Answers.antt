use Rattle.std.proofs.Common.{rules, ◌≡◌, ◌≤◌, ◌∙◌, length, string_bytes, arith}
use Rattle.af_report.specs.Totals.{totals_text}
use Rattle.af_report.proofs.UserLines.{line_more, lines_done}
use Rattle.af_report.proofs.user_lines.totals.Goals as goal

pub loop-i-preserved : goal.loop-i-preserved
loop-i-preserved c = line_more c.args.engine.now.world (string_bytes c.loop-i.text) _ _ c.loop-i.i c.unwrap-user.result (search rules) (search rules) c.loop-i.invariant

pub returns : goal.returns
returns c =
    let w = c.args.engine.now.world in
    let past : length w.users ≤ c.loop-i.i = omega arith in
    let bytes : c.into_bytes.result.items ≡ string_bytes c.loop-i.text = search rules in
    bytes ∙ lines_done w (string_bytes c.loop-i.text) (totals_text w) c.loop-i.i past c.loop-i.invariant
