use Rattle.af_laws.proofs.Accepts.{connect_charges_nobody}
use Rattle.af_laws.proofs.connecting.connect_charges_nobody.Goals as goal

pub returns : goal.returns
returns c = connect_charges_nobody
