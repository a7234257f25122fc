use Rattle.af_base.proofs.Bare.{inflight-bare}
use Rattle.af_plain.proofs.laws.bare_keeps_inflight.Goals as goal

pub returns : goal.returns
returns c = inflight-bare
