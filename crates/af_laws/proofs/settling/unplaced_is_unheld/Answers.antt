use Rattle.af_laws.proofs.Outcomes.{unplaced_is_unheld}
use Rattle.af_laws.proofs.settling.unplaced_is_unheld.Goals as goal

pub returns : goal.returns
returns c = unplaced_is_unheld
