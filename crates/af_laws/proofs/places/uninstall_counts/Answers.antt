use Rattle.af_laws.proofs.PlaceCounts.{uninstall_counts}
use Rattle.af_laws.proofs.places.uninstall_counts.Goals as goal

pub returns : goal.returns
returns c = uninstall_counts
