use Rattle.std.proofs.Common.{length}
use Rattle.scmgc.proofs.play.who.push_holders.Given as goal

abbrev pub decreases-loop-rest : goal.decreases-loop-rest
decreases-loop-rest l = length l.rest
