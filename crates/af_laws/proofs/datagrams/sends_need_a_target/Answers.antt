use Rattle.af_laws.proofs.Targets.{sends_need_a_target}
use Rattle.af_laws.proofs.datagrams.sends_need_a_target.Goals as goal

pub returns : goal.returns
returns c = sends_need_a_target
