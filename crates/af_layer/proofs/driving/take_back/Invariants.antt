use Rattle.std.proofs.Common.{◌≡◌, ◌≤◌, ◌+◌, ◌++◌, vec_len, vec_capacity}
use Rattle.af_layer.specs.Workers.{seats_of}
use Rattle.af_layer.proofs.driving.take_back.Given as goal

abbrev pub invariant-loop-worker : goal.invariant-loop-worker
invariant-loop-worker l = record {
  can_next : (goal.iterator-loop-worker).can_next l.worker-iterator;
  is_finite : (goal.iterator-loop-worker).is_finite l.worker-iterator;
  room : l.worker-iterator.rest.len + vec_len l.seats ≤ vec_capacity l.seats;
  taken : l.seats.items ++ seats_of l.worker-iterator.rest.items ≡ seats_of l.fn.workers.items;
}
