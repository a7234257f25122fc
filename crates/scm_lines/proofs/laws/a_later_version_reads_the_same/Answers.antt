use Rattle.scm_lines.proofs.VersionsRead.{later_reads}
use Rattle.scm_lines.proofs.laws.a_later_version_reads_the_same.Goals as goal

pub returns : goal.returns
returns c = later_reads
