use Rattle.std.proofs.Common.{rules}
use Rattle.af_queue.proofs.queue.Queue.stream_cut.Goals as goal

pub loop-message-preserved : goal.loop-message-preserved
loop-message-preserved c = search rules
