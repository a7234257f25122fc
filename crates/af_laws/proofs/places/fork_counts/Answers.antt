use Rattle.af_laws.proofs.PlaceCounts.{fork_counts}
use Rattle.af_laws.proofs.places.fork_counts.Goals as goal

pub returns : goal.returns
returns c = fork_counts
