use Rattle.std.proofs.Common.{rules}
use Rattle.af_base.proofs.items.ItemsClone.clone.Goals as goal

pub returns : goal.returns
returns c = search rules
