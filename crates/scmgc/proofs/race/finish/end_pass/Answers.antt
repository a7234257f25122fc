-- A slice extends the list.
use Rattle.std.proofs.Common.{arith}
use Rattle.std.proofs.lemmas.Grind.{common_steps}
use Rattle.scmgc.proofs.race.finish.end_pass.Goals as goal

pub slices-preserved : goal.slices-preserved
slices-preserved g c = grind (arith, common_steps)

pub returns-then-not-is_working-clause-list : goal.returns-then-not-is_working-clause-list
returns-then-not-is_working-clause-list g c = grind (arith, common_steps)
