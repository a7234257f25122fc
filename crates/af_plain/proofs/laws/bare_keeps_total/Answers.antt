use Rattle.af_base.proofs.Bare.{total-bare}
use Rattle.af_plain.proofs.laws.bare_keeps_total.Goals as goal

pub returns : goal.returns
returns c = total-bare
