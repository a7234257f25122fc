use Rattle.af_laws.proofs.Bindings.{bound_sockets_are_found}
use Rattle.af_laws.proofs.connecting.bound_sockets_are_found.Goals as goal

pub returns : goal.returns
returns c = bound_sockets_are_found
