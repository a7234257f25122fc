use Rattle.af_laws.proofs.Peeks.{limit_closes_nothing}
use Rattle.af_laws.proofs.peeking.limit_closes_nothing.Goals as goal

pub returns : goal.returns
returns c = limit_closes_nothing
