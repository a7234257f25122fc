use Rattle.af_laws.proofs.FreedPeriods.{periods_join}
use Rattle.af_laws.proofs.telling.periods_join.Goals as goal

pub returns : goal.returns
returns c = periods_join
