use Rattle.af_laws.proofs.Takes.{stream_takes_at_most}
use Rattle.af_laws.proofs.taking.stream_takes_at_most.Goals as goal

pub returns : goal.returns
returns c = stream_takes_at_most
