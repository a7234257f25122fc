use Rattle.af_laws.proofs.TakeRows.{packet_is_cut}
use Rattle.af_laws.proofs.rows.packet_is_cut.Goals as goal

pub returns : goal.returns
returns c = packet_is_cut
