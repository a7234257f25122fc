use Rattle.af_laws.proofs.Targets.{a_send_goes_to_the_target}
use Rattle.af_laws.proofs.datagrams.a_send_goes_to_the_target.Goals as goal

pub returns : goal.returns
returns c = a_send_goes_to_the_target
