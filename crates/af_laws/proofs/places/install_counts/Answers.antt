use Rattle.af_laws.proofs.PlaceCounts.{install_counts}
use Rattle.af_laws.proofs.places.install_counts.Goals as goal

pub returns : goal.returns
returns c = install_counts
