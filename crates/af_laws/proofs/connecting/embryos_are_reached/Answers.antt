use Rattle.af_laws.proofs.Bindings.{embryos_are_reached}
use Rattle.af_laws.proofs.connecting.embryos_are_reached.Goals as goal

pub returns : goal.returns
returns c = embryos_are_reached
