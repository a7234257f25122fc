use Rattle.af_laws.proofs.Shutdowns.{shut_input_ends}
use Rattle.af_laws.proofs.shutting.shut_input_ends.Goals as goal

pub returns : goal.returns
returns c = shut_input_ends
