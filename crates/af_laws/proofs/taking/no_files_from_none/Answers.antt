use Rattle.af_laws.proofs.Takes.{no_files_from_none}
use Rattle.af_laws.proofs.taking.no_files_from_none.Goals as goal

pub returns : goal.returns
returns c = no_files_from_none
