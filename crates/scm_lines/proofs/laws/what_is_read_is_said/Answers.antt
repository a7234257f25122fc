use Rattle.scm_lines.proofs.LineLemmas.{line_said}
use Rattle.scm_lines.proofs.laws.what_is_read_is_said.Goals as goal

pub returns : goal.returns
returns c = line_said
