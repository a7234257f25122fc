use Rattle.std.proofs.Common.{◌<◌, ◌∙◌, ap, length, subst, sym}
use Rattle.std.specs.Option.{option_and_then}
use Rattle.std.specs.Prelude.{IfSome}
use Rattle.af_base.specs.Changes.{queued}
use Rattle.af_base.specs.Refusals.{room_of, socket_of}
use Rattle.af_base.specs.World.{World}
use Rattle.af_desc.specs.FilesView.{FilesView, changed, socket_in}
use Rattle.af_collect.proofs.NewFiles.{Connects, stands-embryo, stays}
use Rattle.af_collect.proofs.StoreInvariant.{BothInvariants, seen-world, stood}
use Rattle.af_collect.proofs.store.Store.make_embryo.Goals as goal

-- The listener stays as it is while the embryo is made.
pub enqueue-requires : goal.enqueue-requires
enqueue-requires c =
    let p = c.self.inside in
    let h = c.holdings.inside in
    let s = c.args.client.now in
    let l = c.args.listener.now in
    let was = stood p h c.holdings.view_is c.holdings.invariant c.self.invariant in
    let r = c.requires in
    let asked = subst (λ (v : World). Connects v s l)
    (seen-world p h _ c.holdings.view_is c.self.view_is) (
      r.full,
      r.client,
      r.connections,
      r.idle,
      r.listener,
      r.room,
    ) in
    let same = ap (λ (fs : FilesView). socket_in fs.files l) c.in_ok-embryo.ensures.ok
    ∙ ap (option_and_then socket_of) (stays p h was c.args.kind r.kind s l asked) in
    subst (λ o. IfSome o (λ x. length x.backlog < room_of x.state)) (sym same) asked.5

both : (c : goal.After-enqueue) → BothInvariants c.self.inside c.holdings.inside.procs c.enqueue.new.self c.holdings.inside.ledger
both c =
    let p = c.self.inside in
    let h = c.holdings.inside in
    let s = c.args.client.now in
    let l = c.args.listener.now in
    let was = stood p h c.holdings.view_is c.holdings.invariant c.self.invariant in
    let r = c.requires in
    let asked = subst (λ (v : World). Connects v s l)
    (seen-world p h _ c.holdings.view_is c.self.view_is) (
      r.full,
      r.client,
      r.connections,
      r.idle,
      r.listener,
      r.room,
    ) in
    let made = c.in_ok-embryo.ensures in
    subst (λ fs. BothInvariants p h.procs fs h.ledger) (sym (c.enqueue.ensures ∙ (λ i. changed (queued (made.ino i)) l (made.ok i))))
    (stands-embryo p h was c.args.kind r.kind s l asked)

pub invariant_of-holdings-2 : goal.invariant_of-holdings-2
invariant_of-holdings-2 c = (both c).0

pub invariant_of-self-2 : goal.invariant_of-self-2
invariant_of-self-2 c = (both c).1
