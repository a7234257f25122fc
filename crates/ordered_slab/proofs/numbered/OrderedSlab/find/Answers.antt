use Rattle.std.proofs.Common.{rules}
use Rattle.ordered_slab.proofs.SlabValues.{finds}
use Rattle.ordered_slab.proofs.numbered.OrderedSlab.find.Goals as goal

pub returns-clause-there : goal.returns-clause-there
returns-clause-there c = search (rules, finds)

pub returns-clause-none : goal.returns-clause-none
returns-clause-none c = search (rules, finds)
