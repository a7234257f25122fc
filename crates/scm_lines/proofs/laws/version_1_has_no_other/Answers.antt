use Rattle.scm_lines.proofs.VersionsRead.{first_alone}
use Rattle.scm_lines.proofs.laws.version_1_has_no_other.Goals as goal

pub returns : goal.returns
returns c = first_alone
