use Rattle.af_laws.proofs.Single.{exit_takes_one_table}
use Rattle.af_laws.proofs.stepping.exit_takes_one_table.Goals as goal

pub returns : goal.returns
returns c = exit_takes_one_table
