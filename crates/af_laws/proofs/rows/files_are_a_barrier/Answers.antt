use Rattle.af_laws.proofs.TakeRows.{files_are_a_barrier}
use Rattle.af_laws.proofs.rows.files_are_a_barrier.Goals as goal

pub returns : goal.returns
returns c = files_are_a_barrier
