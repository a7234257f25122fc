use Rattle.af_laws.proofs.Targets.{connects_need_a_target}
use Rattle.af_laws.proofs.datagrams.connects_need_a_target.Goals as goal

pub returns : goal.returns
returns c = connects_need_a_target
