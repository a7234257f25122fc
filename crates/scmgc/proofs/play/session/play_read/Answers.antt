use Rattle.scmgc.proofs.PlayedLines.{line_played}
use Rattle.scmgc.proofs.play.session.play_read.Goals as goal

pub returns : goal.returns
returns g c =
    line_played c.write_out.result c.args.style c.args.number _ _ c.line_in.result.now c.args.read.now c.in_ok-shown.shown.items c.as_slice.result.now _ _
    c.line_in.ensures c.as_slice.ensures.value c.in_ok-shown.ensures c.write_out.ensures
