-- The option that is added comes before the rest.
use Rattle.std.proofs.Common.{arith, rules}
use Rattle.std.proofs.lemmas.Grind.{common_steps}
use Rattle.scmgc.proofs.task.with_numbers.Goals as goal

pub loop-option-preserved : goal.loop-option-preserved
loop-option-preserved c = record { shape = grind (arith, common_steps); local = search rules }

pub returns-clause-shape : goal.returns-clause-shape
returns-clause-shape c = grind (arith, common_steps)
