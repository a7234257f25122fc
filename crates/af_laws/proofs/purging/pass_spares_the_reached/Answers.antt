use Rattle.af_laws.proofs.WholePasses.{pass_spares_the_reached}
use Rattle.af_laws.proofs.purging.pass_spares_the_reached.Goals as goal

pub returns : goal.returns
returns c = pass_spares_the_reached
