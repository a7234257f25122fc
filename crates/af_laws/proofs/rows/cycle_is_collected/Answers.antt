use Rattle.af_laws.proofs.CyclePass.{cycle_is_collected}
use Rattle.af_laws.proofs.rows.cycle_is_collected.Goals as goal

pub returns : goal.returns
returns c = cycle_is_collected
