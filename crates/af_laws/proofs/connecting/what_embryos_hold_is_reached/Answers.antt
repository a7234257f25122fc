use Rattle.af_laws.proofs.Bindings.{what_embryos_hold_is_reached}
use Rattle.af_laws.proofs.connecting.what_embryos_hold_is_reached.Goals as goal

pub returns : goal.returns
returns c = what_embryos_hold_is_reached
