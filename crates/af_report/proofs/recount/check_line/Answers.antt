use Rattle.std.proofs.Common.{rules}
use Rattle.af_report.proofs.recount.check_line.Goals as goal

pub returns : goal.returns
returns c = rw (← c.live-files.ensures) (rw (← c.garbage-garbage.ensures) (search rules))
