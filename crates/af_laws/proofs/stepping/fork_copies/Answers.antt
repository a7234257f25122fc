use Rattle.af_laws.proofs.Single.{fork_copies}
use Rattle.af_laws.proofs.stepping.fork_copies.Goals as goal

pub returns : goal.returns
returns c = fork_copies
