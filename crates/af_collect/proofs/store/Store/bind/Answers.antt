use Rattle.std.proofs.Common.{rules, ◌≡◌, None, refl, subst}
use Rattle.std.specs.Prelude.{IfSome}
use Rattle.af_base.specs.Changes.{with_name}
use Rattle.af_base.specs.Names.{named, set_of}
use Rattle.af_base.specs.Refusals.{socket_at}
use Rattle.af_base.specs.World.{World}
use Rattle.af_ledger.specs.Tally.{kept_of}
use Rattle.af_collect.proofs.SocketStates.{exact-bound}
use Rattle.af_collect.specs.contracts.holdings.Holdings.{the_view}
use Rattle.af_collect.proofs.StoreInvariant.{BothInvariants, seen-world, stands-socket, stood}
use Rattle.af_collect.proofs.store.Store.bind.Goals as goal

both : (c : goal.After-bind) → BothInvariants c.self.inside c.holdings.inside.procs c.bind.new.self c.holdings.inside.ledger
both c =
    let p = c.self.inside in
    let h = c.holdings.inside in
    let w = (the_view h).world in
    let back = seen-world p h _ c.holdings.view_is c.self.view_is in
    let was = stood p h c.holdings.view_is c.holdings.invariant c.self.invariant in
    let s = c.args.socket.now in
    let free = subst (λ (v : World). IfSome (socket_at v s) (λ x. named v.files (set_of x.kind) c.args.name.now ≡ None)) back c.requires.free in
    let e = c.bind.ensures in
    stands-socket c.bind.result p h _ e.err was s (with_name c.args.name.now) (λ x. refl) e.ok (exact-bound w s c.args.name.now (kept_of h.files.counts h.ledger) c.requires.name free was.0)

pub invariant_of-holdings : goal.invariant_of-holdings
invariant_of-holdings c = (both c).0

pub invariant_of-self : goal.invariant_of-self
invariant_of-self c = (both c).1

pub returns-clause-ok : goal.returns-clause-ok
returns-clause-ok c = search rules
