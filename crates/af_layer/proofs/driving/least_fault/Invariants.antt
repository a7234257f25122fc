use Rattle.af_layer.specs.Workers.{LeastBelow}
use Rattle.af_layer.proofs.driving.least_fault.Given as goal

abbrev pub invariant-loop-i : goal.invariant-loop-i
invariant-loop-i l = LeastBelow l.workers l.i l.least
