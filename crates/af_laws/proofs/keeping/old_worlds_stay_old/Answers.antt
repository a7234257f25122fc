use Rattle.af_laws.proofs.OldWorlds.{old_worlds_stay_old}
use Rattle.af_laws.proofs.keeping.old_worlds_stay_old.Goals as goal

pub returns : goal.returns
returns c = old_worlds_stay_old
