use Rattle.af_laws.proofs.Chains.{install_keeps_reached}
use Rattle.af_laws.proofs.reaching.install_keeps_reached.Goals as goal

pub returns : goal.returns
returns c = install_keeps_reached
