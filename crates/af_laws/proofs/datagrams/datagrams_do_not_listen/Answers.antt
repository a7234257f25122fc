use Rattle.af_laws.proofs.NoConnections.{datagrams_do_not_listen}
use Rattle.af_laws.proofs.datagrams.datagrams_do_not_listen.Goals as goal

pub returns : goal.returns
returns c = datagrams_do_not_listen
