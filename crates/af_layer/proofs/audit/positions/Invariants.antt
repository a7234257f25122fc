use Rattle.af_layer.specs.Walk.{ArePositionsOf}
use Rattle.af_layer.proofs.audit.positions.Given as goal

abbrev pub invariant-loop-i : goal.invariant-loop-i
invariant-loop-i l = ArePositionsOf l.i l.seats l.positions
