use Rattle.af_laws.proofs.Purges.{purges_in_any_order}
use Rattle.af_laws.proofs.purging.purges_in_any_order.Goals as goal

pub returns : goal.returns
returns c = purges_in_any_order
