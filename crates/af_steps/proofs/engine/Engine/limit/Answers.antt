use Rattle.std.proofs.Common.{rules}
use Rattle.af_steps.proofs.engine.Engine.limit.Goals as goal

pub returns-clause-done : goal.returns-clause-done
returns-clause-done c = search rules
