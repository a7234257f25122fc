use Rattle.af_laws.proofs.Shutdowns.{second_shutdown_changes_nothing}
use Rattle.af_laws.proofs.shutting.second_shutdown_changes_nothing.Goals as goal

pub returns : goal.returns
returns c = second_shutdown_changes_nothing
