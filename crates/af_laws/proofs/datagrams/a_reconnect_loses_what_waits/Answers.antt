use Rattle.af_laws.proofs.Targets.{a_reconnect_loses_what_waits}
use Rattle.af_laws.proofs.datagrams.a_reconnect_loses_what_waits.Goals as goal

pub returns : goal.returns
returns c = a_reconnect_loses_what_waits
