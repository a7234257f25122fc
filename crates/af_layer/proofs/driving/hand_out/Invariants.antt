use Rattle.std.proofs.Common.{◌≡◌, ◌≤◌, ◌+◌, ◌++◌, vec_len, vec_capacity}
use Rattle.af_layer.specs.Drive.{works_of}
use Rattle.af_layer.specs.Workers.{workers_of}
use Rattle.af_layer.proofs.driving.hand_out.Given as goal

abbrev pub invariant-loop-seat : goal.invariant-loop-seat
invariant-loop-seat l = record {
  can_next : (goal.iterator-loop-seat).can_next l.seat-iterator;
  is_finite : (goal.iterator-loop-seat).is_finite l.seat-iterator;
  room : l.seat-iterator.rest.len + vec_len l.workers ≤ vec_capacity l.workers;
  count : l.seat-iterator.rest.len + vec_len l.workers ≡ vec_len l.fn.seats;
  handed : l.workers.items ++ workers_of l.seat-iterator.rest.items (works_of l.scripts.rest.items l.collector) ≡ workers_of l.fn.seats.items (works_of l.fn.scripts.items l.fn.collector);
}
