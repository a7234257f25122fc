use Rattle.af_base.proofs.Readiness.{step-ready}
use Rattle.af_laws.proofs.polling.step_leaves_ready.Goals as goal

pub returns : goal.returns
returns c = step-ready
