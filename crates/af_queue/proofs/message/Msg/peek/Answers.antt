use Rattle.std.proofs.Common.{rules}
use Rattle.af_queue.proofs.message.Msg.peek.Goals as goal

pub returns : goal.returns
returns c = search rules
