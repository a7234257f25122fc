use Rattle.af_laws.proofs.Logs.{events_have_replies}
use Rattle.af_laws.proofs.running.events_have_replies.Goals as goal

pub returns : goal.returns
returns c = events_have_replies
