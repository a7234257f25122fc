use Rattle.af_laws.proofs.PlaceCounts.{send_counts}
use Rattle.af_laws.proofs.places.send_counts.Goals as goal

pub returns : goal.returns
returns c = send_counts
