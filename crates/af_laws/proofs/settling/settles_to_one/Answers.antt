use Rattle.af_laws.proofs.Outcomes.{settles_to_one}
use Rattle.af_laws.proofs.settling.settles_to_one.Goals as goal

pub returns : goal.returns
returns c = settles_to_one
