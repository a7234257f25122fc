use Rattle.af_laws.proofs.Outcomes.{cycles_stay}
use Rattle.af_laws.proofs.settling.cycles_stay.Goals as goal

pub returns : goal.returns
returns c = cycles_stay
