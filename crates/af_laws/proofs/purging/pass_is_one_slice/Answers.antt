use Rattle.af_laws.proofs.Slices.{pass_is_one_slice}
use Rattle.af_laws.proofs.purging.pass_is_one_slice.Goals as goal

pub returns : goal.returns
returns c = pass_is_one_slice
