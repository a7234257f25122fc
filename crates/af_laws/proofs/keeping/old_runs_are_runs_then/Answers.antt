use Rattle.af_laws.proofs.OldReadings.{old_runs_are_runs_then}
use Rattle.af_laws.proofs.keeping.old_runs_are_runs_then.Goals as goal

pub returns : goal.returns
returns c = old_runs_are_runs_then
