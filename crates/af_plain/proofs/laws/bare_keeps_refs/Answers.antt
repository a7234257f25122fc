use Rattle.af_base.proofs.Bare.{refs-bare}
use Rattle.af_plain.proofs.laws.bare_keeps_refs.Goals as goal

pub returns : goal.returns
returns c = refs-bare
