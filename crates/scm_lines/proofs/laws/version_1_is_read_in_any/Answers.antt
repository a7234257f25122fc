use Rattle.scm_lines.proofs.VersionsRead.{first_in_any}
use Rattle.scm_lines.proofs.laws.version_1_is_read_in_any.Goals as goal

pub returns : goal.returns
returns c = first_in_any
