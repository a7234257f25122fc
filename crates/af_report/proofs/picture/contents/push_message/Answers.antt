use Rattle.std.proofs.Common.{string_bytes}
use Rattle.af_report.specs.Graph.{attached_text}
use Rattle.af_report.proofs.Pieces.{piece_more}
use Rattle.af_report.proofs.picture.contents.push_message.Goals as goal

pub loop-other-preserved : goal.loop-other-preserved
loop-other-preserved c =
    piece_more (attached_text c.args.ino c.args.user) c.args.attached.now c.loop-other.other-index c.other-item.result (string_bytes c.args.text.now) (string_bytes c.loop-other.text) (string_bytes c.push_attached.new.text)
    c.loop-other-test.true c.other-item.is c.loop-other.invariant c.in_ok-push_attached.ensures
