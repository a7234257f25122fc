use Rattle.af_laws.proofs.Logs.{replies_determine}
use Rattle.af_laws.proofs.running.replies_determine.Goals as goal

pub returns : goal.returns
returns c = replies_determine
