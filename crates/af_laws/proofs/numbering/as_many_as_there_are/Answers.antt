use Rattle.af_laws.proofs.Lowest.{as_many_as_there_are}
use Rattle.af_laws.proofs.numbering.as_many_as_there_are.Goals as goal

pub returns : goal.returns
returns c = as_many_as_there_are
