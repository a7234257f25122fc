use Rattle.std.proofs.Common.{◌<◌, ◌∙◌, ◌≡◌, ap, false, length, subst, sym}
use Rattle.std.specs.Option.{option_and_then}
use Rattle.std.specs.Prelude.{IfSome, is_none, unwrap_or}
use Rattle.af_base.specs.Changes.{queued}
use Rattle.af_base.specs.Counts.{waiting}
use Rattle.af_base.specs.Refusals.{no_socket, room_of, socket_at, socket_of}
use Rattle.af_base.specs.World.{IsLive, World}
use Rattle.af_desc.specs.FilesView.{changed}
use Rattle.af_ledger.specs.Tally.{kept_of}
use Rattle.af_mark.specs.MarksView.{is_marked}
use Rattle.af_collect.proofs.SocketStates.{exact-queued, is-socket}
use Rattle.af_collect.specs.Keeping.{NotBegunGarbage, below}
use Rattle.af_collect.proofs.SocketChanges.{covers_queued, moves_queued}
use Rattle.af_collect.proofs.SparedFiles.{spared_running}
use Rattle.af_collect.specs.StoreView.{StoreView}
use Rattle.af_collect.specs.contracts.holdings.Holdings.{the_view}
use Rattle.af_collect.proofs.StoreInvariant.{kept_socket, BothInvariants, seen-world, stood}
use Rattle.af_collect.proofs.store.Store.put_embryo.Goals as goal

both : (c : goal.After-enqueue) → BothInvariants c.self.inside c.holdings.inside.procs c.enqueue.new.self c.holdings.inside.ledger
both c =
    let p = c.self.inside in
    let h = c.holdings.inside in
    let w = (the_view h).world in
    let begun = p.begun.value.world in
    let s = c.args.listener.now in
    let f = c.args.embryo in
    let was = stood p h c.holdings.view_is c.holdings.invariant c.self.invariant in
    let back = seen-world c.self.inside c.holdings.inside _ c.holdings.view_is c.self.view_is in
    let at = is-socket w s (subst (λ (v : World). is_none (socket_at v s) ≡ false) back c.requires.socket) in
    let live = subst (λ (v : World). IsLive v f) back c.requires.live in
    let none = subst (λ (v : World). waiting v f ≡ 0) back c.requires.new in
    let fits = subst (λ (v : World). IfSome (socket_at v s) (λ x. length x.backlog < room_of x.state)) back c.requires.room in
    let room = subst (λ o. IfSome (option_and_then socket_of o) (λ x. length x.backlog < room_of x.state)) at fits in
    let spared = subst (λ (t : StoreView). NotBegunGarbage t.pass f) (sym c.self.view_is) c.requires.spared in
    subst (λ fs. BothInvariants p h.procs fs h.ledger) (sym (c.enqueue.ensures ∙ ap (changed (queued f) s) c.hold.ensures)) (
      exact-queued w s f (unwrap_or (socket_at w s) no_socket) (kept_of h.files.counts h.ledger) at live none room was.0,
      kept_socket s (queued f) (λ e. moves_queued begun w s f (spared_running p.progress.stage begun p.progress.looked f e spared)) (λ _. covers_queued begun w s f (is_marked h.files.marks) (below p.progress.visited)) was.1,
    )

pub invariant_of-holdings : goal.invariant_of-holdings
invariant_of-holdings c = (both c).0

pub invariant_of-self : goal.invariant_of-self
invariant_of-self c = (both c).1
