use Rattle.af_laws.proofs.Targets.{unconnect_never_fails}
use Rattle.af_laws.proofs.datagrams.unconnect_never_fails.Goals as goal

pub returns : goal.returns
returns c = unconnect_never_fails
