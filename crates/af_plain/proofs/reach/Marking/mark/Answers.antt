use Rattle.af_plain.proofs.SearchInvariant.{marks-new, was_new}
use Rattle.af_plain.proofs.reach.Marking.mark.Goals as goal

pub returns-in_ok-push : goal.returns-in_ok-push
returns-in_ok-push c = marks-new c.args.self.now _ c.args.ino (was_new c.in_ok-insert.field-0 _ c.in_ok-insert.ensures.added c.if-branch.true) c.in_ok-insert.ensures.updates c.in_ok-push.ensures.items
