use Rattle.af_laws.proofs.Chains.{purging_keeps_reached}
use Rattle.af_laws.proofs.reaching.purging_keeps_reached.Goals as goal

pub returns : goal.returns
returns c = purging_keeps_reached
