use Rattle.af_layer.specs.Walk.{AllTrack}
use Rattle.af_layer.proofs.audit.walk.Given as goal

abbrev pub invariant-loop-entry : goal.invariant-loop-entry
invariant-loop-entry l = AllTrack l.log l.seats l.positions l.entry-index l.cursors
