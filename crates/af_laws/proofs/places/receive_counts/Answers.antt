use Rattle.af_laws.proofs.PlaceCounts.{receive_counts}
use Rattle.af_laws.proofs.places.receive_counts.Goals as goal

pub returns : goal.returns
returns c = receive_counts
