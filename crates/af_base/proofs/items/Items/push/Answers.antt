use Rattle.std.proofs.Common.{rules}
use Rattle.af_base.proofs.items.Items.push.Goals as goal

pub returns-clause-ok : goal.returns-clause-ok
returns-clause-ok c = search rules
