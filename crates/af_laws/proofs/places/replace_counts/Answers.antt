use Rattle.af_laws.proofs.PlaceCounts.{replace_counts}
use Rattle.af_laws.proofs.places.replace_counts.Goals as goal

pub returns : goal.returns
returns c = replace_counts
