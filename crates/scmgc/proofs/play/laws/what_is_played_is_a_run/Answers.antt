use Rattle.scmgc.proofs.PlayedLines.{run_of_played}
use Rattle.scmgc.proofs.play.laws.what_is_played_is_a_run.Goals as goal

pub returns : goal.returns
returns c = run_of_played
