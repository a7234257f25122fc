use Rattle.af_laws.proofs.Accepts.{connect_counts}
use Rattle.af_laws.proofs.connecting.connect_counts.Goals as goal

pub returns : goal.returns
returns c = connect_counts
