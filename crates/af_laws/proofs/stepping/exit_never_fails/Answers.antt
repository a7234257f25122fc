use Rattle.af_laws.proofs.Single.{exit_never_fails}
use Rattle.af_laws.proofs.stepping.exit_never_fails.Goals as goal

pub returns : goal.returns
returns c = exit_never_fails
