use Rattle.af_laws.proofs.Outcomes.{unplaced_goes_first}
use Rattle.af_laws.proofs.settling.unplaced_goes_first.Goals as goal

pub returns : goal.returns
returns c = unplaced_goes_first
