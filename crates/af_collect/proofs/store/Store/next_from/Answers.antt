use Rattle.std.proofs.Common.{rules}
use Rattle.af_collect.proofs.store.Store.next_from.Goals as goal

pub returns-clause-some : goal.returns-clause-some
returns-clause-some c = search rules
