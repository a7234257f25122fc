use Rattle.af_laws.proofs.PlaceCounts.{none_where_not_waiting}
use Rattle.af_laws.proofs.places.none_where_not_waiting.Goals as goal

pub returns : goal.returns
returns c = none_where_not_waiting
