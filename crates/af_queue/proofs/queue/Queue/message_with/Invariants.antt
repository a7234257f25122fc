-- The message that is looked for is among those left.
use Rattle.std.proofs.Common.{◌≡◌, length}
use Rattle.af_queue.specs.TakenView.{message_at}
use Rattle.af_queue.proofs.queue.Queue.message_with.Given as goal

abbrev pub invariant-loop-message : goal.invariant-loop-message
invariant-loop-message l = message_at l.left l.queue ≡ message_at l.byte l.self

abbrev pub decreases-loop-message : goal.decreases-loop-message
decreases-loop-message l = length l.queue
