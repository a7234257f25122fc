use Rattle.af_laws.proofs.Polls.{ready_is_what_steps_find}
use Rattle.af_laws.proofs.polling.ready_is_what_steps_find.Goals as goal

pub returns : goal.returns
returns c = ready_is_what_steps_find
