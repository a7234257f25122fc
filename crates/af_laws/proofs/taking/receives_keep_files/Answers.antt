use Rattle.af_laws.proofs.Receives.{receives_keep_files}
use Rattle.af_laws.proofs.taking.receives_keep_files.Goals as goal

pub returns : goal.returns
returns c = receives_keep_files
