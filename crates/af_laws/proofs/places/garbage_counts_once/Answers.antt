use Rattle.af_laws.proofs.PlaceCounts.{garbage_counts_once}
use Rattle.af_laws.proofs.places.garbage_counts_once.Goals as goal

pub returns : goal.returns
returns c = garbage_counts_once
