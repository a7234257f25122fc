use Rattle.af_laws.proofs.PlaceCounts.{references_add_up}
use Rattle.af_laws.proofs.places.references_add_up.Goals as goal

pub returns : goal.returns
returns c = references_add_up
