use Rattle.af_laws.proofs.Slices.{slices_are_a_pass}
use Rattle.af_laws.proofs.purging.slices_are_a_pass.Goals as goal

pub returns : goal.returns
returns c = slices_are_a_pass
