use Rattle.af_laws.proofs.Cycle.{smallest_cycle}
use Rattle.af_laws.proofs.rows.smallest_cycle.Goals as goal

pub returns : goal.returns
returns c = smallest_cycle
