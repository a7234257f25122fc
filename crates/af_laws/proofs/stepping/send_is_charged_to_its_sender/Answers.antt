use Rattle.af_laws.proofs.Sender.{send_is_charged_to_its_sender}
use Rattle.af_laws.proofs.stepping.send_is_charged_to_its_sender.Goals as goal

pub returns : goal.returns
returns c = send_is_charged_to_its_sender
