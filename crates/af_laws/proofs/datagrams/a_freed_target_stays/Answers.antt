use Rattle.af_laws.proofs.FreedNumbers.{a_freed_target_stays}
use Rattle.af_laws.proofs.datagrams.a_freed_target_stays.Goals as goal

pub returns : goal.returns
returns c = a_freed_target_stays
