use Rattle.std.proofs.Common.{◌∙◌, ◌≡◌, ℕ, ap, refl, subst, sym}
use Rattle.std.specs.List.{Contains}
use Rattle.std.specs.Map.{keys_of}
use Rattle.af_base.specs.Changes.{push_message, pushed}
use Rattle.af_desc.specs.FilesView.{changed_queue}
use Rattle.af_ledger.specs.Tally.{CanHoldAll, kept_of, with_refs}
use Rattle.af_ledger.specs.declared.place.Place.TheVariants.{Queue}
use Rattle.af_ledger.proofs.ManyPlaces.{users-held_all}
use Rattle.af_mark.specs.MarksView.{is_marked}
use Rattle.af_collect.specs.HoldingsView.{HoldingsView}
use Rattle.af_collect.proofs.Exact.{world-is}
use Rattle.af_collect.proofs.SocketStates.{can-put, exact-put}
use Rattle.af_collect.specs.Keeping.{NotBegunGarbage, below}
use Rattle.af_collect.proofs.SocketChanges.{covers_push, moves_push}
use Rattle.af_collect.proofs.SparedFiles.{spared_running}
use Rattle.af_collect.specs.StoreView.{StoreView}
use Rattle.af_collect.specs.contracts.holdings.Holdings.{the_view}
use Rattle.af_collect.proofs.StoreInvariant.{kept_socket, BothInvariants, both-same, shown, stood}
use Rattle.af_collect.proofs.store.Store.put_msg.Goals as goal

pub charge_message-requires : goal.charge_message-requires
charge_message-requires c =
    let h = c.holdings.inside in
    let k = kept_of h.files.counts h.ledger in
    let here = ap (λ (t : HoldingsView). t.world) c.holdings.view_is ∙ ap (λ (t : StoreView). t.world) c.self.view_is in
    subst (λ u. CanHoldAll u c.attached.result.now k) (sym c.user.ensures) (subst (λ fs. CanHoldAll c.args.message.user fs k) (sym c.attached.ensures.value) (can-put (the_view h).world _ here k c.args.message c.holdings.invariant c.requires.user c.requires.flying c.requires.live))

-- The counts and charges once the message is queued: those with its places.
kept : (c : goal.After-push) → let m = c.args.message in kept_of c.push.new.self.counts c.charge_message.new.ledger ≡ with_refs (Queue m.user) m.attached (kept_of c.holdings.inside.files.counts c.holdings.inside.ledger)
kept c = ap (λ v. kept_of v.counts c.charge_message.new.ledger) c.push.ensures ∙ c.charge_message.ensures.kept ∙ (λ i. with_refs (Queue (c.user.ensures i)) (c.attached.ensures.value i) (kept_of c.holdings.inside.files.counts c.holdings.inside.ledger))

-- The world then is the one with the message in the queue.
put : (c : goal.After-push) → (the_view (record c.holdings.inside { files = c.push.new.self; ledger = c.charge_message.new.ledger })).world ≡ push_message (the_view c.holdings.inside).world c.args.socket.now c.args.message
put c =
    let h = c.holdings.inside in
    let m = c.args.message in
    let rest = c.push.ensures ∙ ap (changed_queue (pushed m) c.args.socket.now c.push.new.self.message_room) c.charge_message.ensures.rest in
    world-is _ (push_message (the_view h).world c.args.socket.now m) refl (ap (λ v. v.files) rest) (ap (λ v. v.next) rest) refl
    (ap (λ l. keys_of l.users) (kept c) ∙ users-held_all m.user m.attached (kept_of h.files.counts h.ledger))

-- Both invariants hold then.
both : (c : goal.After-push) → BothInvariants c.self.inside c.holdings.inside.procs c.push.new.self c.charge_message.new.ledger
both c =
    let p = c.self.inside in
    let h = c.holdings.inside in
    let w = (the_view h).world in
    let begun = p.begun.value.world in
    let s = c.args.socket.now in
    let m = c.args.message in
    let r = c.requires in
    let was = stood p h c.holdings.view_is c.holdings.invariant c.self.invariant in
    let here = ap (λ (t : HoldingsView). t.world) c.holdings.view_is ∙ ap (λ (t : StoreView). t.world) c.self.view_is in
    let spared = subst (λ (t : StoreView). (f : ℕ) → Contains m.attached f → NotBegunGarbage t.pass f) (sym c.self.view_is) r.spared in
    both-same _ (push_message w s m) _ _ _ _ (put c) (kept c) (ap (λ v. v.marks) c.push.ensures ∙ ap (λ v. v.marks) c.charge_message.ensures.rest)
    (exact-put w _ here (kept_of h.files.counts h.ledger) m was.0 r.user r.flying r.live s r.socket r.queue r.within)
    (kept_socket s (pushed m) (λ e. moves_push begun w s m (λ f there. spared_running p.progress.stage begun p.progress.looked f e (spared f there))) (λ _. covers_push begun w s m (is_marked h.files.marks) (below p.progress.visited)) was.1)

pub invariant_of-holdings : goal.invariant_of-holdings
invariant_of-holdings c = (both c).0

pub invariant_of-self : goal.invariant_of-self
invariant_of-self c = (both c).1

pub returns : goal.returns
returns c =
    let p = c.self.inside in
    let h = c.holdings.inside in
    let room = c.push.new.self.message_room in
    let marks = ap (λ v. v.marks) c.push.ensures ∙ ap (λ v. v.marks) c.charge_message.ensures.rest in
    let since = ap (λ v. v.since) c.push.ensures ∙ ap (λ v. v.since) c.charge_message.ensures.rest in
    (λ i. shown p (record (the_view h) { world = put c i; message_room = room; marks = marks i; since = since i }))
    ∙ ap {A = HoldingsView} {B = StoreView} (λ t. shown p (record t { world = push_message t.world c.args.socket.now c.args.message; message_room = room })) c.holdings.view_is
    ∙ ap {A = StoreView} {B = StoreView} (λ t. record t { world = push_message t.world c.args.socket.now c.args.message; message_room = room }) c.self.view_is
