use Rattle.af_laws.proofs.Single.{close_never_fails}
use Rattle.af_laws.proofs.stepping.close_never_fails.Goals as goal

pub returns : goal.returns
returns c = close_never_fails
