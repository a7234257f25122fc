use Rattle.std.proofs.Common.{◌≡◌}
use Rattle.af_layer.specs.Workers.{ScriptProgress}
use Rattle.af_layer.proofs.workers.play.Given as goal

abbrev pub invariant-loop-event : goal.invariant-loop-event
invariant-loop-event g l = record {
  can_next : (goal.iterator-loop-event g).can_next l.event-iterator;
  is_finite : (goal.iterator-loop-event g).is_finite l.event-iterator;
  number : l.seat.number ≡ l.fn.seat.number;
  progress : ScriptProgress l.fn.seat.list l.fn.script.items l.event-iterator.rest.items l.seat.list;
}
