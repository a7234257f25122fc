use Rattle.af_laws.proofs.PlaceCounts.{none_where_not_in_flight}
use Rattle.af_laws.proofs.places.none_where_not_in_flight.Goals as goal

pub returns : goal.returns
returns c = none_where_not_in_flight
