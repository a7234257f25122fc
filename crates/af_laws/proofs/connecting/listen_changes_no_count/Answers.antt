use Rattle.af_laws.proofs.Bindings.{listen_changes_no_count}
use Rattle.af_laws.proofs.connecting.listen_changes_no_count.Goals as goal

pub returns : goal.returns
returns c = listen_changes_no_count
