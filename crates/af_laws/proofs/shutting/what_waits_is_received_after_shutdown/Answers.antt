use Rattle.af_laws.proofs.Shutdowns.{what_waits_is_received_after_shutdown}
use Rattle.af_laws.proofs.shutting.what_waits_is_received_after_shutdown.Goals as goal

pub returns : goal.returns
returns c = what_waits_is_received_after_shutdown
