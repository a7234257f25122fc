use Rattle.af_laws.proofs.Slices.{pass_has_one_outcome}
use Rattle.af_laws.proofs.purging.pass_has_one_outcome.Goals as goal

pub returns : goal.returns
returns c = pass_has_one_outcome
