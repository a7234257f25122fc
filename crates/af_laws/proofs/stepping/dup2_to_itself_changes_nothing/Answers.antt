use Rattle.af_laws.proofs.Single.{dup2_to_itself_changes_nothing}
use Rattle.af_laws.proofs.stepping.dup2_to_itself_changes_nothing.Goals as goal

pub returns : goal.returns
returns c = dup2_to_itself_changes_nothing
