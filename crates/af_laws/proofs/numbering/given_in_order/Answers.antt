use Rattle.af_laws.proofs.Lowest.{given_in_order}
use Rattle.af_laws.proofs.numbering.given_in_order.Goals as goal

pub returns : goal.returns
returns c = given_in_order
