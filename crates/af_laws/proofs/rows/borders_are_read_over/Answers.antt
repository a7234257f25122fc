use Rattle.af_laws.proofs.TakeRows.{borders_are_read_over}
use Rattle.af_laws.proofs.rows.borders_are_read_over.Goals as goal

pub returns : goal.returns
returns c = borders_are_read_over
