use Rattle.af_laws.proofs.Logs.{runs_join}
use Rattle.af_laws.proofs.running.runs_join.Goals as goal

pub returns : goal.returns
returns c = runs_join
