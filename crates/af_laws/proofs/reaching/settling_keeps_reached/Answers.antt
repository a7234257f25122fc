use Rattle.af_laws.proofs.Chains.{settling_keeps_reached}
use Rattle.af_laws.proofs.reaching.settling_keeps_reached.Goals as goal

pub returns : goal.returns
returns c = settling_keeps_reached
