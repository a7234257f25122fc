use Rattle.std.proofs.Common.{rules}
use Rattle.af_queue.proofs.pool.take.Goals as goal

pub returns-in-Stream-clause-taken : goal.returns-in-Stream-clause-taken
returns-in-Stream-clause-taken c = search rules
