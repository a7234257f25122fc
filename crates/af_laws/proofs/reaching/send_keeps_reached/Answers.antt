use Rattle.af_laws.proofs.Chains.{send_keeps_reached}
use Rattle.af_laws.proofs.reaching.send_keeps_reached.Goals as goal

pub returns : goal.returns
returns c = send_keeps_reached
