use Rattle.af_laws.proofs.Logs.{refused_changes_nothing}
use Rattle.af_laws.proofs.running.refused_changes_nothing.Goals as goal

pub returns : goal.returns
returns c = refused_changes_nothing
