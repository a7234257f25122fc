use Rattle.af_laws.proofs.Takes.{stream_keeps_bytes}
use Rattle.af_laws.proofs.taking.stream_keeps_bytes.Goals as goal

pub returns : goal.returns
returns c = stream_keeps_bytes
