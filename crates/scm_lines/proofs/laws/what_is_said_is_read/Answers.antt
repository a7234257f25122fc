use Rattle.scm_lines.proofs.LineLemmas.{line_read}
use Rattle.scm_lines.proofs.laws.what_is_said_is_read.Goals as goal

pub returns : goal.returns
returns c = line_read
