use Rattle.af_laws.proofs.PlaceCounts.{exit_counts}
use Rattle.af_laws.proofs.places.exit_counts.Goals as goal

pub returns : goal.returns
returns c = exit_counts
