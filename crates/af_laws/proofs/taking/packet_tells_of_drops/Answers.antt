use Rattle.af_laws.proofs.Takes.{packet_tells_of_drops}
use Rattle.af_laws.proofs.taking.packet_tells_of_drops.Goals as goal

pub returns : goal.returns
returns c = packet_tells_of_drops
