use Rattle.af_laws.proofs.Reachability.{spawn_reaches_no_garbage}
use Rattle.af_laws.proofs.reaching.spawn_reaches_no_garbage.Goals as goal

pub returns : goal.returns
returns c = spawn_reaches_no_garbage
