use Rattle.af_laws.proofs.ClosedEnds.{shutdown_closes_ends}
use Rattle.af_laws.proofs.shutting.shutdown_closes_ends.Goals as goal

pub returns : goal.returns
returns c = shutdown_closes_ends
