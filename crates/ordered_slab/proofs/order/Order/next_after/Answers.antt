use Rattle.std.proofs.Common.{◌∙◌, arith}
use Rattle.ordered_slab.specs.SlabValues.{keys_of}
use Rattle.ordered_slab.proofs.Searches.{nowhere}
use Rattle.ordered_slab.proofs.order.Order.next_after.Goals as goal

pub returns-clause-least : goal.returns-clause-least
returns-clause-least g c = λ q above before. nowhere (keys_of c.args.slab.now) q (λ k at.
    let least = c.in-Some.ensures.least q k (c.requires.listed q k at) above in
    let is = c.duplicate.ensures ∙ c.file-3.ensures in
    omega (arith, least, is, before))
