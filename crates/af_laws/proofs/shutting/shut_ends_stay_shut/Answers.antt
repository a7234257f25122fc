use Rattle.af_laws.proofs.ClosedEnds.{shut_ends_stay_shut}
use Rattle.af_laws.proofs.shutting.shut_ends_stay_shut.Goals as goal

pub returns : goal.returns
returns c = shut_ends_stay_shut
