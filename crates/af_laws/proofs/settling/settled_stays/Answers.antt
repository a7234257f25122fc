use Rattle.af_laws.proofs.Outcomes.{settled_stays}
use Rattle.af_laws.proofs.settling.settled_stays.Goals as goal

pub returns : goal.returns
returns c = settled_stays
