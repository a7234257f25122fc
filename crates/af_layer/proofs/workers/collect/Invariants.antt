use Rattle.std.proofs.Common.{◌≡◌}
use Rattle.af_layer.specs.Drive.{Turned}
use Rattle.af_layer.proofs.workers.collect.Given as goal

abbrev pub invariant-loop-turn : goal.invariant-loop-turn
invariant-loop-turn g l = record {
  number : l.seat.number ≡ l.fn.seat.number;
  turned : Turned l.turns.budget l.fn.seat.list l.turn l.seat.list;
}
