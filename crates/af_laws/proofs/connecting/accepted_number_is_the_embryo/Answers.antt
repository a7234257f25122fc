use Rattle.af_laws.proofs.Accepts.{accepted_number_is_the_embryo}
use Rattle.af_laws.proofs.connecting.accepted_number_is_the_embryo.Goals as goal

pub returns : goal.returns
returns c = accepted_number_is_the_embryo
