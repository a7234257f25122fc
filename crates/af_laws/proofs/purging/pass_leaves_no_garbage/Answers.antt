use Rattle.af_laws.proofs.WholePasses.{pass_leaves_no_garbage}
use Rattle.af_laws.proofs.purging.pass_leaves_no_garbage.Goals as goal

pub returns : goal.returns
returns c = pass_leaves_no_garbage
