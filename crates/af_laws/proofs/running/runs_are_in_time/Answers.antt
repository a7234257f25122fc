use Rattle.af_laws.proofs.Logs.{runs_are_in_time}
use Rattle.af_laws.proofs.running.runs_are_in_time.Goals as goal

pub returns : goal.returns
returns c = runs_are_in_time
