use Rattle.af_layer.proofs.Origins.{reached-after}
use Rattle.af_layer.proofs.origin.BookFrom+AtCheckpoint.checkpoint.Goals as goal

pub invariant_of-self : goal.invariant_of-self
invariant_of-self c =
    reached-after _ c.self.inside.book c.checkpoint.new.self c.checkpoint.result c.self.invariant c.log.ensures.legal c.checkpoint.ensures.book c.checkpoint.ensures.same
