-- The messages passed and those to come are all.
use Rattle.std.proofs.Common.{◌≡◌, ◌≤◌, ◌+◌, ◌-◌, length}
use Rattle.af_queue.specs.Streams.{files_in, stream_cut}
use Rattle.af_queue.proofs.queue.Queue.stream_cut.Given as goal

abbrev pub invariant-loop-message : goal.invariant-loop-message
invariant-loop-message l = record {
  within : l.bytes ≤ l.max;
  bytes : l.bytes + stream_cut (l.max - l.bytes) l.queue ≡ stream_cut l.max l.self;
  files : files_in (l.max - l.bytes) l.queue ≡ files_in l.max l.self;
}

abbrev pub decreases-loop-message : goal.decreases-loop-message
decreases-loop-message l = length l.queue
