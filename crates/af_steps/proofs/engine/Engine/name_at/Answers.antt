use Rattle.std.proofs.Common.{rules}
use Rattle.af_steps.proofs.engine.Engine.name_at.Goals as goal

pub returns : goal.returns
returns c = search rules
