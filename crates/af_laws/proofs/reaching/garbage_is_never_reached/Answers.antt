use Rattle.af_laws.proofs.Forever.{garbage_is_never_reached}
use Rattle.af_laws.proofs.reaching.garbage_is_never_reached.Goals as goal

pub returns : goal.returns
returns c = garbage_is_never_reached
