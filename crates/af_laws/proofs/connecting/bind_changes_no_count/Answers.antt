use Rattle.af_laws.proofs.Bindings.{bind_changes_no_count}
use Rattle.af_laws.proofs.connecting.bind_changes_no_count.Goals as goal

pub returns : goal.returns
returns c = bind_changes_no_count
