use Rattle.af_laws.proofs.Peeks.{peek_changes_no_flight}
use Rattle.af_laws.proofs.peeking.peek_changes_no_flight.Goals as goal

pub returns : goal.returns
returns c = peek_changes_no_flight
