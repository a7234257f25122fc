use Rattle.af_laws.proofs.Lowest.{no_lower_is_passed_over}
use Rattle.af_laws.proofs.numbering.no_lower_is_passed_over.Goals as goal

pub returns : goal.returns
returns c = no_lower_is_passed_over
