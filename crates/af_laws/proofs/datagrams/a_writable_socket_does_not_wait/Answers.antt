use Rattle.af_laws.proofs.NoConnections.{a_writable_socket_does_not_wait}
use Rattle.af_laws.proofs.datagrams.a_writable_socket_does_not_wait.Goals as goal

pub returns : goal.returns
returns c = a_writable_socket_does_not_wait
