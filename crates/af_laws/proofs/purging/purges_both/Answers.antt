use Rattle.af_laws.proofs.Purges.{purges_both}
use Rattle.af_laws.proofs.purging.purges_both.Goals as goal

pub returns : goal.returns
returns c = purges_both
