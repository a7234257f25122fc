use Rattle.std.proofs.Common.{subst, sym}
use Rattle.af_collect.proofs.StoreInvariant.{BothInvariants, stood}
use Rattle.af_collect.proofs.store.Store.clear_told.Goals as goal

both : (c : goal.After-clear_told) → BothInvariants c.self.inside c.holdings.inside.procs c.clear_told.new.self c.holdings.inside.ledger
both c =
    let p = c.self.inside in
    let h = c.holdings.inside in
    let was = stood p h c.holdings.view_is c.holdings.invariant c.self.invariant in
    subst (λ fs. BothInvariants p h.procs fs h.ledger) (sym c.clear_told.ensures) was

pub invariant_of-holdings : goal.invariant_of-holdings
invariant_of-holdings c = (both c).0

pub invariant_of-self : goal.invariant_of-self
invariant_of-self c = (both c).1
