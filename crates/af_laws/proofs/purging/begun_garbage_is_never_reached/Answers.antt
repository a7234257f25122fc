use Rattle.af_laws.proofs.BeginGarbage.{begun_garbage_is_never_reached}
use Rattle.af_laws.proofs.purging.begun_garbage_is_never_reached.Goals as goal

pub returns : goal.returns
returns c = begun_garbage_is_never_reached
