use Rattle.af_laws.proofs.Shutdowns.{shutdown_changes_no_place}
use Rattle.af_laws.proofs.shutting.shutdown_changes_no_place.Goals as goal

pub returns : goal.returns
returns c = shutdown_changes_no_place
