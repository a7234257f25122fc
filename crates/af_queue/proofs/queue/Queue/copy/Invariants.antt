-- The copied bytes and those to come are all.
use Rattle.std.proofs.Common.{◌≡◌, ◌≤◌, ◌-◌, ◌++◌, length, take}
use Rattle.af_base.specs.Take.{joined}
use Rattle.af_queue.proofs.queue.Queue.copy.Given as goal

abbrev pub invariant-loop-queue : goal.invariant-loop-queue
invariant-loop-queue l = record {
  within : length l.bytes.items ≤ l.count;
  bytes : l.bytes.items ++ take (l.count - length l.bytes.items) (joined l.queue) ≡ take l.count (joined l.self);
}

abbrev pub decreases-loop-queue : goal.decreases-loop-queue
decreases-loop-queue l = length l.queue
