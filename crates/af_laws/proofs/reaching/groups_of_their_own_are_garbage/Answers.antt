use Rattle.af_laws.proofs.Chains.{groups_of_their_own_are_garbage}
use Rattle.af_laws.proofs.reaching.groups_of_their_own_are_garbage.Goals as goal

pub returns : goal.returns
returns c = groups_of_their_own_are_garbage
