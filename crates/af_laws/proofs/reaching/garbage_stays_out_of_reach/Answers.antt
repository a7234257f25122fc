use Rattle.af_laws.proofs.Reachability.{garbage_stays_out_of_reach}
use Rattle.af_laws.proofs.reaching.garbage_stays_out_of_reach.Goals as goal

pub returns : goal.returns
returns c = garbage_stays_out_of_reach
