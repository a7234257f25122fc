use Rattle.af_laws.proofs.PlaceCounts.{none_where_unplaced}
use Rattle.af_laws.proofs.places.none_where_unplaced.Goals as goal

pub returns : goal.returns
returns c = none_where_unplaced
