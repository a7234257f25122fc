use Rattle.af_laws.proofs.TakeRows.{one_byte_brings_the_files}
use Rattle.af_laws.proofs.rows.one_byte_brings_the_files.Goals as goal

pub returns : goal.returns
returns c = one_byte_brings_the_files
