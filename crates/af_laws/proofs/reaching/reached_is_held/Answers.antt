use Rattle.af_laws.proofs.Chains.{reached_is_held}
use Rattle.af_laws.proofs.reaching.reached_is_held.Goals as goal

pub returns : goal.returns
returns c = reached_is_held
