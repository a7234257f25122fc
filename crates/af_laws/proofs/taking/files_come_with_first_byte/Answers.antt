use Rattle.af_laws.proofs.Takes.{files_come_with_first_byte}
use Rattle.af_laws.proofs.taking.files_come_with_first_byte.Goals as goal

pub returns : goal.returns
returns c = files_come_with_first_byte
