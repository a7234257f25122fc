use Rattle.af_base.proofs.Bare.{charged-bare}
use Rattle.af_plain.proofs.laws.bare_keeps_charged.Goals as goal

pub returns : goal.returns
returns c = charged-bare
