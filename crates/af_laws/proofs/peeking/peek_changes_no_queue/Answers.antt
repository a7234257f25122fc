use Rattle.af_laws.proofs.Peeks.{peek_changes_no_queue}
use Rattle.af_laws.proofs.peeking.peek_changes_no_queue.Goals as goal

pub returns : goal.returns
returns c = peek_changes_no_queue
