use Rattle.af_laws.proofs.ClosedEnds.{nothing_is_sent_through_a_closed_end}
use Rattle.af_laws.proofs.shutting.nothing_is_sent_through_a_closed_end.Goals as goal

pub returns : goal.returns
returns c = nothing_is_sent_through_a_closed_end
