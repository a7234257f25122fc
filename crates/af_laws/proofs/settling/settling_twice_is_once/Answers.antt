use Rattle.af_laws.proofs.Outcomes.{settling_twice_is_once}
use Rattle.af_laws.proofs.settling.settling_twice_is_once.Goals as goal

pub returns : goal.returns
returns c = settling_twice_is_once
