use Rattle.af_laws.proofs.Accepts.{accept_takes_the_first_embryo}
use Rattle.af_laws.proofs.connecting.accept_takes_the_first_embryo.Goals as goal

pub returns : goal.returns
returns c = accept_takes_the_first_embryo
