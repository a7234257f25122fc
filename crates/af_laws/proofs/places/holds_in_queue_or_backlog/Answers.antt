use Rattle.af_laws.proofs.PlaceCounts.{holds_in_queue_or_backlog}
use Rattle.af_laws.proofs.places.holds_in_queue_or_backlog.Goals as goal

pub returns : goal.returns
returns c = holds_in_queue_or_backlog
