use Rattle.af_laws.proofs.SettlingOutcome.{settles_to_some}
use Rattle.af_laws.proofs.settling.settles_to_some.Goals as goal

pub returns : goal.returns
returns c = settles_to_some
