use Rattle.af_laws.proofs.Chains.{places_keep_reached}
use Rattle.af_laws.proofs.reaching.places_keep_reached.Goals as goal

pub returns : goal.returns
returns c = places_keep_reached
