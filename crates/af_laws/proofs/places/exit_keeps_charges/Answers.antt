use Rattle.af_laws.proofs.PlaceCounts.{exit_keeps_charges}
use Rattle.af_laws.proofs.places.exit_keeps_charges.Goals as goal

pub returns : goal.returns
returns c = exit_keeps_charges
