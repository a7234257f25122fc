use Rattle.af_laws.proofs.PlaceCounts.{send_charges}
use Rattle.af_laws.proofs.places.send_charges.Goals as goal

pub returns : goal.returns
returns c = send_charges
