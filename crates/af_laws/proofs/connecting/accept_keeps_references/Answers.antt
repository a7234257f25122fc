use Rattle.af_laws.proofs.Accepts.{accept_keeps_references}
use Rattle.af_laws.proofs.connecting.accept_keeps_references.Goals as goal

pub returns : goal.returns
returns c = accept_keeps_references
