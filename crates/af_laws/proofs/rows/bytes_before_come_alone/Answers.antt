use Rattle.af_laws.proofs.TakeRows.{bytes_before_come_alone}
use Rattle.af_laws.proofs.rows.bytes_before_come_alone.Goals as goal

pub returns : goal.returns
returns c = bytes_before_come_alone
