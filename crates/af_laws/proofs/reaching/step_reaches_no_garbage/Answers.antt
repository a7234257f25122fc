use Rattle.af_laws.proofs.Reachability.{step_reaches_no_garbage}
use Rattle.af_laws.proofs.reaching.step_reaches_no_garbage.Goals as goal

pub returns : goal.returns
returns c = step_reaches_no_garbage
