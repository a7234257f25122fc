use Rattle.af_laws.proofs.WholePasses.{pass_releases_its_garbage}
use Rattle.af_laws.proofs.purging.pass_releases_its_garbage.Goals as goal

pub returns : goal.returns
returns c = pass_releases_its_garbage
