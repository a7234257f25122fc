use Rattle.af_base.proofs.Bare.{reached-bare}
use Rattle.af_plain.proofs.laws.bare_keeps_reached.Goals as goal

pub returns : goal.returns
returns c = reached-bare
