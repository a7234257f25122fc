use Rattle.std.proofs.Common.{map as mapped, ◌∙◌, ◌≡◌, List, ap, refl, subst, sym, ℕ}
use Rattle.std.specs.List.{zip}
use Rattle.std.specs.Map.{keys_of}
use Rattle.af_base.specs.Changes.{install_all, with_queue, with_socket}
use Rattle.af_base.specs.World.{World}
use Rattle.af_desc.specs.FilesView.{FilesView, received_from}
use Rattle.af_ledger.specs.Tally.{CanDropAll, Tally, kept_of, without_refs}
use Rattle.af_ledger.specs.declared.place.Place.TheVariants.{Queue}
use Rattle.af_ledger.proofs.ManyPlaces.{users-dropped_all}
use Rattle.af_collect.specs.Receiving.{taken_at}
use Rattle.af_collect.specs.HoldingsView.{filled}
use Rattle.af_collect.proofs.Exact.{exact-same, install-filled, users-filled, world-is}
use Rattle.af_collect.proofs.Receives.{can-drop-received, counted, exact-received, received_at, tabled, taken_queue, files-fit, receives-within, spared-within}
use Rattle.af_collect.specs.Keeping.{shaded_in}
use Rattle.af_collect.specs.contracts.holdings.Holdings.{the_view}
use Rattle.af_collect.proofs.StoreInvariant.{kept_taken, BothInvariants, both-same, seen-moved, shown, stood}
use Rattle.af_collect.proofs.store.Store.take_msg.Goals as goal

pub receive_all-requires-clause-there : goal.receive_all-requires-clause-there
receive_all-requires-clause-there c = (receives-within c.self.inside c.holdings.inside _ c.holdings.view_is c.self.view_is c.args.socket.now c.args.max c.args.pid c.args.fds.now c.requires.can).1

pub receive_all-requires-clause-fits : goal.receive_all-requires-clause-fits
receive_all-requires-clause-fits c = files-fit c.self.inside c.holdings.inside _ c.holdings.view_is c.self.view_is c.args.socket.now c.args.max c.args.pid c.args.fds.now c.requires.can
    c.holdings.invariant _ (ap (λ v. v.counts) c.in_ok-take.ensures.ok) _ (c.attached-attached.ensures.value ∙ ap (λ t. t.message.attached) c.in_ok-take.ensures.taken) c.attached-attached.ensures.bound

pub receive_all-requires-clause-queued : goal.receive_all-requires-clause-queued
receive_all-requires-clause-queued c =
    let h = c.holdings.inside in
    let w = (the_view h).world in
    let r = receives-within c.self.inside c.holdings.inside _ c.holdings.view_is c.self.view_is c.args.socket.now c.args.max c.args.pid c.args.fds.now c.requires.can in
    let taken = c.in_ok-take.ensures.taken in
    let user = c.user.ensures ∙ ap (λ t. t.message.user) taken in
    let attached = c.attached-attached.ensures.value ∙ ap (λ t. t.message.attached) taken in
    let kept = ap (λ (v : FilesView). kept_of v.counts h.ledger) c.in_ok-take.ensures.ok in
    subst (λ (m : ℕ × List ℕ × Tally). CanDropAll m.0 m.1 m.2) (λ i. (sym user i, sym attached i, sym kept i)) (can-drop-received w c.args.socket.now c.args.max (kept_of h.files.counts h.ledger) c.holdings.invariant c.requires.can.some r.0)

-- The ledger in the end.
left : (c : goal.After-shade_taken) → let k = kept_of c.holdings.inside.files.counts c.holdings.inside.ledger in let m = received_at (the_view c.holdings.inside).world c.args.socket.now c.args.max in
    kept_of c.shade_taken.new.files.counts c.receive_all.new.ledger ≡ without_refs (Queue m.user) m.attached (counted k c.args.fds.now m.attached)
left c =
    let h = c.holdings.inside in
    let taken = c.in_ok-take.ensures.taken in
    let user = c.user.ensures ∙ ap (λ t. t.message.user) taken in
    let attached = c.attached-attached.ensures.value ∙ ap (λ t. t.message.attached) taken in
    ap (λ v. kept_of v.counts c.receive_all.new.ledger) c.shade_taken.ensures ∙ c.receive_all.ensures.kept
    ∙ (λ i. without_refs (Queue (user i)) (attached i) (counted (kept_of (c.in_ok-take.ensures.ok i).counts h.ledger) c.args.fds.now (attached i)))

-- The world in the end.
received : (c : goal.After-shade_taken) → let w = (the_view c.holdings.inside).world in let taken = taken_at w c.args.socket.now c.args.max in
    (the_view (record c.holdings.inside { procs = c.receive_all.new.procs; files = c.shade_taken.new.files; ledger = c.receive_all.new.ledger })).world ≡ install_all (with_queue w c.args.socket.now taken.rest) c.args.pid (zip c.args.fds.now taken.attached)
received c =
    let h = c.holdings.inside in
    let w = (the_view h).world in
    let s = c.args.socket.now in
    let m = received_at w s c.args.max in
    let t = taken_at w s c.args.max in
    let v : World = tabled w c.args.pid c.args.fds.now m.attached in
    let attached = c.attached-attached.ensures.value ∙ ap (λ t. t.message.attached) c.in_ok-take.ensures.taken in
    let processes = c.receive_all.ensures.processes ∙ ap (λ l. filled w.processes c.args.pid (zip c.args.fds.now l)) attached in
    let k = kept_of h.files.counts h.ledger in
    let users = ap (λ l. keys_of l.users) (left c) ∙ users-dropped_all m.user m.attached (counted k c.args.fds.now m.attached) ∙ users-filled (mapped (λ e. e.1) (zip c.args.fds.now m.attached)) k in
    let files = ap (λ v. v.files) c.shade_taken.ensures ∙ ap (λ v. v.files) c.receive_all.ensures.rest ∙ ap (λ v. v.files) c.in_ok-take.ensures.ok in
    let next = ap (λ v. v.next) c.shade_taken.ensures ∙ ap (λ v. v.next) c.receive_all.ensures.rest ∙ ap (λ v. v.next) c.in_ok-take.ensures.ok in
    world-is _ (with_socket v s (received_from c.args.max)) processes files next c.receive_all.ensures.next users ∙ taken_queue v s c.args.max
    ∙ sym (install-filled (with_queue w s t.rest) c.args.pid (zip c.args.fds.now t.attached))

both : (c : goal.After-shade_taken) → BothInvariants c.self.inside c.receive_all.new.procs c.shade_taken.new.files c.receive_all.new.ledger
both c =
    let p = c.self.inside in
    let h = c.holdings.inside in
    let w = (the_view h).world in
    let k = kept_of h.files.counts h.ledger in
    let s = c.args.socket.now in
    let max = c.args.max in
    let pid = c.args.pid in
    let fds = c.args.fds.now in
    let was = stood p h c.holdings.view_is c.holdings.invariant c.self.invariant in
    let r = receives-within c.self.inside c.holdings.inside _ c.holdings.view_is c.self.view_is c.args.socket.now c.args.max c.args.pid c.args.fds.now c.requires.can in
    let t = taken_at w s max in
    let files = c.attached-attached.ensures.value ∙ ap (λ o. o.message.attached) c.in_ok-take.ensures.taken in
    let before = ap (λ v. v.marks) c.receive_all.ensures.rest ∙ ap (λ v. v.marks) c.in_ok-take.ensures.ok in
    let marks = ap (λ v. v.marks) c.shade_taken.ensures ∙ (λ i. shaded_in p.progress.stage (files i) (before i)) in
    both-same _ (install_all (with_queue w s t.rest) pid (zip fds t.attached)) _ _ _ _ (received c) (left c) marks
    (exact-same _ _ _ _ (install-filled (with_queue w s t.rest) pid (zip fds t.attached)) refl (exact-received w s max k was.0 c.requires.can.some r.0 pid fds r.1 r.2))
    (kept_taken was.0 s max r.0 p.progress.looked pid fds (spared-within c.self.inside c.holdings.inside _ c.holdings.view_is c.self.view_is c.args.socket.now c.args.max c.args.pid c.args.fds.now c.requires.can) r.1 r.2 was.1)

pub invariant_of-holdings-2 : goal.invariant_of-holdings-2
invariant_of-holdings-2 c = (both c).0

pub invariant_of-self-2 : goal.invariant_of-self-2
invariant_of-self-2 c = (both c).1

pub returns-clause-world : goal.returns-clause-world
returns-clause-world c =
    let p = c.self.inside in
    let h = c.holdings.inside in
    let since = ap (λ v. v.since) c.shade_taken.ensures ∙ ap (λ v. v.since) c.receive_all.ensures.rest ∙ ap (λ v. v.since) c.in_ok-take.ensures.ok in
    (λ i. shown p (record { world = received c i; rows = c.receive_all.ensures.rows i; message_room = c.shade_taken.new.files.message_room; marks = c.shade_taken.new.files.marks; since = since i }))
    ∙ seen-moved p h _ (λ v. let t = taken_at v c.args.socket.now c.args.max in install_all (with_queue v c.args.socket.now t.rest) c.args.pid (zip c.args.fds.now t.attached)) c.shade_taken.new.files.marks c.shade_taken.new.files.message_room c.holdings.view_is c.self.view_is
