use Rattle.af_base.proofs.Readiness.{purge-ready}
use Rattle.af_laws.proofs.polling.purge_leaves_ready.Goals as goal

pub returns : goal.returns
returns c = purge-ready
