use Rattle.af_laws.proofs.OldReadings.{old_worlds_read_as_then}
use Rattle.af_laws.proofs.keeping.old_worlds_read_as_then.Goals as goal

pub returns : goal.returns
returns c = old_worlds_read_as_then
