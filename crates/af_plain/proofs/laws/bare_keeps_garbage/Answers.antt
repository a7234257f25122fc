use Rattle.af_base.proofs.Bare.{garbage-bare}
use Rattle.af_plain.proofs.laws.bare_keeps_garbage.Goals as goal

pub returns : goal.returns
returns c = garbage-bare
