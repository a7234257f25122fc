use Rattle.af_laws.proofs.Chains.{nothing_in_flight_is_no_garbage}
use Rattle.af_laws.proofs.reaching.nothing_in_flight_is_no_garbage.Goals as goal

pub returns : goal.returns
returns c = nothing_in_flight_is_no_garbage
