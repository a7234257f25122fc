use Rattle.af_laws.proofs.PlaceCounts.{none_where_untabled}
use Rattle.af_laws.proofs.places.none_where_untabled.Goals as goal

pub returns : goal.returns
returns c = none_where_untabled
