-- The found files and those to come are all.
use Rattle.std.proofs.Common.{◌≡◌, ◌≤◌, ◌-◌, ◌++◌, drop, length, take}
use Rattle.af_base.specs.Places.{attached_in}
use Rattle.af_queue.specs.declared.queue.TheConstants.{BATCH}
use Rattle.af_queue.proofs.queue.Queue.attached_from.Given as goal

abbrev pub invariant-loop-message : goal.invariant-loop-message
invariant-loop-message l = record {
  fits : length l.files.items ≤ BATCH;
  files : l.files.items ++ take (BATCH - length l.files.items) (drop l.skip (attached_in l.queue)) ≡ take BATCH (drop l.from (attached_in l.self));
}

abbrev pub decreases-loop-message : goal.decreases-loop-message
decreases-loop-message l = length l.queue
