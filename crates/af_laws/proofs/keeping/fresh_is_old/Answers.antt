use Rattle.af_laws.proofs.OldWorlds.{fresh_is_old}
use Rattle.af_laws.proofs.keeping.fresh_is_old.Goals as goal

pub returns : goal.returns
returns c = fresh_is_old
