use Rattle.af_laws.proofs.Slices.{slices_spare_the_reached}
use Rattle.af_laws.proofs.purging.slices_spare_the_reached.Goals as goal

pub returns : goal.returns
returns c = slices_spare_the_reached
