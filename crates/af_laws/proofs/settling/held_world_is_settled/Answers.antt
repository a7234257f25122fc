use Rattle.af_laws.proofs.Outcomes.{held_world_is_settled}
use Rattle.af_laws.proofs.settling.held_world_is_settled.Goals as goal

pub returns : goal.returns
returns c = held_world_is_settled
