use Rattle.af_laws.proofs.Peeks.{peek_sees_what_is_received}
use Rattle.af_laws.proofs.peeking.peek_sees_what_is_received.Goals as goal

pub returns : goal.returns
returns c = peek_sees_what_is_received
