use Rattle.af_layer.proofs.JoinedLogs.{taken_logs_are_one}
use Rattle.af_layer.proofs.taken.taken_logs_are_one.Goals as goal

pub returns : goal.returns
returns c = taken_logs_are_one
