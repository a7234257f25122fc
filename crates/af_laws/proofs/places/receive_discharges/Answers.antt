use Rattle.af_laws.proofs.PlaceCounts.{receive_discharges}
use Rattle.af_laws.proofs.places.receive_discharges.Goals as goal

pub returns : goal.returns
returns c = receive_discharges
