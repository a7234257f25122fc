use Rattle.std.proofs.Common.{refl}
use Rattle.af_base.specs.Changes.{set_limit}
use Rattle.af_ledger.specs.Tally.{kept_of}
use Rattle.af_collect.proofs.Exact.{exact-limited, world-is}
use Rattle.af_collect.specs.contracts.holdings.Holdings.{the_view}
use Rattle.af_collect.proofs.StoreInvariant.{kept_limited, BothInvariants, both-same, stood}
use Rattle.af_collect.proofs.store.Store.set_limit.Goals as goal

both : (c : goal.After-set_limit) → BothInvariants c.self.inside c.set_limit.new.self c.holdings.inside.files c.holdings.inside.ledger
both c =
    let h = c.holdings.inside in
    let w = (the_view h).world in
    let e = c.set_limit.ensures in
    let was = stood c.self.inside h c.holdings.view_is c.holdings.invariant c.self.invariant in
    both-same _ (set_limit w c.args.pid c.args.limit) _ _ _ _ (world-is _ _ e.processes refl refl e.next refl) refl refl
    (exact-limited w c.args.pid c.args.limit (kept_of h.files.counts h.ledger) c.requires was.0) (kept_limited c.args.pid c.args.limit was.1)

pub invariant_of-holdings : goal.invariant_of-holdings
invariant_of-holdings c = (both c).0

pub invariant_of-self : goal.invariant_of-self
invariant_of-self c = (both c).1
