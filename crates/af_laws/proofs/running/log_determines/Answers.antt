use Rattle.af_laws.proofs.Logs.{log_determines}
use Rattle.af_laws.proofs.running.log_determines.Goals as goal

pub returns : goal.returns
returns c = log_determines
