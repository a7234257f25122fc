-- The next seat's children exit after those of the seats before it.
use Rattle.std.proofs.Common.{arith}
use Rattle.std.proofs.lemmas.Grind.{common_steps}
use Rattle.scmgc.proofs.race.finish.end_children.Goals as goal

pub loop-seat-preserved : goal.loop-seat-preserved
loop-seat-preserved g c = grind (arith, common_steps)

pub returns-clause-exits : goal.returns-clause-exits
returns-clause-exits g c = grind (arith, common_steps)
