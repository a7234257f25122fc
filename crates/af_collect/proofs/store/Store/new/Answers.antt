use Rattle.std.proofs.Common.{subst, sym}
use Rattle.af_base.specs.World.{World}
use Rattle.af_collect.specs.Keeping.{AreKnown}
use Rattle.af_collect.proofs.MarkTests.{known_empty}
use Rattle.af_collect.proofs.store.Store.new.Goals as goal

pub invariant_of-result : goal.invariant_of-result
invariant_of-result c =
    let p = c.new-holdings.result in
    record { known = subst (λ (w : World). AreKnown w p.marks) (sym c.new-holdings.ensures.world) (known_empty p.marks c.new-holdings.ensures.marks); stage = tt }
