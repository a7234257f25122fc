use Rattle.af_laws.proofs.Takes.{packet_keeps_bytes}
use Rattle.af_laws.proofs.taking.packet_keeps_bytes.Goals as goal

pub returns : goal.returns
returns c = packet_keeps_bytes
