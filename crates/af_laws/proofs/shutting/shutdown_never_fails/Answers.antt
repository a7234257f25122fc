use Rattle.af_laws.proofs.Shutdowns.{shutdown_never_fails}
use Rattle.af_laws.proofs.shutting.shutdown_never_fails.Goals as goal

pub returns : goal.returns
returns c = shutdown_never_fails
