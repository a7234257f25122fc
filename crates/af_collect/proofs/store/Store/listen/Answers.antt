use Rattle.std.proofs.Common.{◌≡◌, false, refl, subst}
use Rattle.std.specs.Prelude.{IfSome}
use Rattle.af_base.specs.Changes.{listening}
use Rattle.af_base.specs.Refusals.{is_datagram, socket_at}
use Rattle.af_base.specs.World.{World}
use Rattle.af_ledger.specs.Tally.{kept_of}
use Rattle.af_collect.proofs.SocketStates.{exact-listening, idle-alone}
use Rattle.af_collect.specs.contracts.holdings.Holdings.{the_view}
use Rattle.af_collect.proofs.StoreInvariant.{BothInvariants, seen-world, stands-socket, stood}
use Rattle.af_base.specs.declared.events.State.TheVariants as state
use Rattle.af_collect.proofs.store.Store.listen.Goals as goal

pub listen-requires-clause-nobody : goal.listen-requires-clause-nobody
listen-requires-clause-nobody c =
    let s = c.args.socket.now in
    let back = seen-world c.self.inside c.holdings.inside _ c.holdings.view_is c.self.view_is in
    idle-alone (the_view c.holdings.inside).world s c.holdings.invariant.within (subst (λ (v : World). IfSome (socket_at v s) (λ x. x.state ≡ state.Idle)) back c.requires.idle)

both : (c : goal.After-listen) → BothInvariants c.self.inside c.holdings.inside.procs c.listen.new.self c.holdings.inside.ledger
both c =
    let p = c.self.inside in
    let h = c.holdings.inside in
    let w = (the_view h).world in
    let back = seen-world p h _ c.holdings.view_is c.self.view_is in
    let was = stood p h c.holdings.view_is c.holdings.invariant c.self.invariant in
    let s = c.args.socket.now in
    let idle = subst (λ (v : World). IfSome (socket_at v s) (λ x. x.state ≡ state.Idle)) back c.requires.idle in
    let stream = subst (λ (v : World). IfSome (socket_at v s) (λ x. is_datagram x.kind
    ≡ false)) back c.requires.connections in
    let e = c.listen.ensures in
    stands-socket c.listen.result p h _ e.err was s (listening c.args.most) (λ x. refl) e.ok
    (exact-listening w s c.args.most (kept_of h.files.counts h.ledger) stream idle
    c.requires.some c.requires.few was.0)

pub invariant_of-holdings : goal.invariant_of-holdings
invariant_of-holdings c = (both c).0

pub invariant_of-self : goal.invariant_of-self
invariant_of-self c = (both c).1
