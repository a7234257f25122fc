use Rattle.af_collect.proofs.StoreInvariant.{BothInvariants, stands-either, stood}
use Rattle.af_desc.specs.Told.{since_telling}
use Rattle.af_collect.proofs.store.Store.tell.Goals as goal

both : (c : goal.After-tell) → BothInvariants c.self.inside c.holdings.inside.procs c.tell.new.self c.holdings.inside.ledger
both c =
    let p = c.self.inside in
    let h = c.holdings.inside in
    let was = stood p h c.holdings.view_is c.holdings.invariant c.self.invariant in
    stands-either c.tell.result p h _ c.tell.ensures.err was (record h.files { since = since_telling c.args.list h.files.since h.files.files h.files.next }) c.tell.ensures.ok was

pub invariant_of-holdings : goal.invariant_of-holdings
invariant_of-holdings c = (both c).0

pub invariant_of-self : goal.invariant_of-self
invariant_of-self c = (both c).1
