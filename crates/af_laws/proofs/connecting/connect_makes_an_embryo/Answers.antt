use Rattle.af_laws.proofs.Accepts.{connect_makes_an_embryo}
use Rattle.af_laws.proofs.connecting.connect_makes_an_embryo.Goals as goal

pub returns : goal.returns
returns c = connect_makes_an_embryo
