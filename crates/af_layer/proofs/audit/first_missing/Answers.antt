use Rattle.af_layer.specs.Audit.{Has}
use Rattle.af_layer.proofs.Steps.{one_more}
use Rattle.af_layer.proofs.audit.first_missing.Goals as goal

pub loop-before-preserved : goal.loop-before-preserved
loop-before-preserved c = one_more (Has c.args.seats.now) c.loop-before.before c.loop-before.invariant c.if-not-is_before.ensures
