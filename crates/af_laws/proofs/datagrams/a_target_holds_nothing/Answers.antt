use Rattle.af_laws.proofs.Targets.{a_target_holds_nothing}
use Rattle.af_laws.proofs.datagrams.a_target_holds_nothing.Goals as goal

pub returns : goal.returns
returns c = a_target_holds_nothing
