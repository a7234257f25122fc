use Rattle.af_laws.proofs.Bindings.{names_find_their_sockets}
use Rattle.af_laws.proofs.connecting.names_find_their_sockets.Goals as goal

pub returns : goal.returns
returns c = names_find_their_sockets
