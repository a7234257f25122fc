use Rattle.af_laws.proofs.NoConnections.{datagrams_have_no_end}
use Rattle.af_laws.proofs.datagrams.datagrams_have_no_end.Goals as goal

pub returns : goal.returns
returns c = datagrams_have_no_end
