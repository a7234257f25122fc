use Rattle.std.proofs.Common.{rules}
use Rattle.af_queue.proofs.pool.cut_first.Goals as goal

pub returns-in-Some-clause-messages : goal.returns-in-Some-clause-messages
returns-in-Some-clause-messages c = search rules
