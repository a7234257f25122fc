use Rattle.af_laws.proofs.WholePasses.{pass_without_processes_leaves_nothing}
use Rattle.af_laws.proofs.purging.pass_without_processes_leaves_nothing.Goals as goal

pub returns : goal.returns
returns c = pass_without_processes_leaves_nothing
