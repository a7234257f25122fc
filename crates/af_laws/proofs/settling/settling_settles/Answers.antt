use Rattle.af_laws.proofs.Outcomes.{settling_settles}
use Rattle.af_laws.proofs.settling.settling_settles.Goals as goal

pub returns : goal.returns
returns c = settling_settles
