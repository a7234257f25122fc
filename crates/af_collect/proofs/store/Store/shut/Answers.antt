use Rattle.std.proofs.Common.{refl}
use Rattle.std.specs.Prelude.{Ok, Result, ⊤}
use Rattle.af_base.specs.Changes.{shut}
use Rattle.af_ledger.specs.Tally.{kept_of}
use Rattle.af_collect.proofs.SocketStates.{exact-shut}
use Rattle.af_collect.specs.contracts.holdings.Holdings.{the_view}
use Rattle.af_collect.proofs.StoreInvariant.{BothInvariants, stands-socket, stood}
use Rattle.af_collect.proofs.store.Store.shut.Goals as goal

both : (c : goal.After-shut) → BothInvariants c.self.inside c.holdings.inside.procs c.shut.new.self c.holdings.inside.ledger
both c =
    let p = c.self.inside in
    let h = c.holdings.inside in
    let was = stood p h c.holdings.view_is c.holdings.invariant c.self.invariant in
    let s = c.args.socket.now in
    let g = shut c.args.input c.args.output in
    let done : Result ⊤ ⊤ = Ok tt in
    stands-socket done p h _ tt was s g (λ x. refl) c.shut.ensures (exact-shut (the_view h).world s c.args.input c.args.output (kept_of h.files.counts h.ledger) was.0)

pub invariant_of-holdings : goal.invariant_of-holdings
invariant_of-holdings c = (both c).0

pub invariant_of-self : goal.invariant_of-self
invariant_of-self c = (both c).1
