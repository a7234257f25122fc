use Rattle.std.proofs.Common.{◌<◌, arith, length, ◌≡◌, ℕ, Bool, List, drop, refl, sym, ap, ◌∙◌, subst}
use Rattle.std.specs.Prelude.{Some}
use Rattle.std.specs.Map.{keys_of}
use Rattle.af_base.specs.Places.{backlog_at, queue_at}
use Rattle.af_base.specs.Changes.{with_queue, with_socket}
use Rattle.af_base.specs.World.{Message}
use Rattle.af_desc.specs.FilesView.{FilesView, changed_queue, popped, without_file_ref}
use Rattle.af_desc.specs.Holding.{IsPopped, without_popped}
use Rattle.af_desc.specs.declared.contents.Popped.{Popped}
use Rattle.af_collect.specs.declared.holdings.Holdings.TheInside.{Inside}
use Rattle.af_collect.specs.Losing.{without_place}
use Rattle.af_ledger.specs.Counted.{IsCounted}
use Rattle.af_ledger.specs.Tally.{CanDropAll, LedgerView, count_in_map, kept_of, without_refs}
use Rattle.af_ledger.specs.declared.place.Place.TheVariants.{Backlog, Queue}
use Rattle.af_ledger.proofs.ManyPlaces.{users-dropped_all}
use Rattle.af_collect.specs.HoldingsView.{AreExact, HoldingsView}
use Rattle.af_collect.specs.contracts.holdings.Holdings.{the_view}
use Rattle.af_collect.proofs.Bounds.{can-drop-all, can-drop-backlog}
use Rattle.af_collect.proofs.Exact.{exact-dequeued, exact-same, exact-shed, world-is}
use Rattle.af_collect.proofs.Receives.{popped_queue}
use Rattle.af_collect.proofs.LossOutcomes.{first-embryo, first-shed, lost-embryo, lost-message, none-popped}
use Rattle.af_collect.proofs.holdings.Holdings.drop_place.Goals as goal
use Rattle.af_collect.proofs.holdings.Holdings.drop_place.Goals.{in-Embryo, in-Message, In-Some}

-- A message was popped, and its places were dropped.
module _ (h : Inside) (s user : ℕ) (attached slice : List ℕ) (room : Bool) (p v : FilesView) (l : LedgerView) (pop : p ≡ changed_queue popped s room h.files) (of : slice ≡ attached) (kept : kept_of v.counts l ≡ without_refs (Queue user) slice (kept_of p.counts h.ledger)) (rest : v ≡ record p { counts = v.counts }) where
  -- The counts afterwards.
  dropped : kept_of v.counts l ≡ without_refs (Queue user) attached (kept_of h.files.counts h.ledger)
  dropped = kept ∙ (λ i. without_refs (Queue user) (of i) (kept_of (pop i).counts h.ledger))

  -- The files afterwards.
  left : v ≡ record (changed_queue popped s room h.files) { counts = v.counts }
  left = rest ∙ ap {A = FilesView} {B = FilesView} (λ x. record x { counts = v.counts }) pop

  -- The world afterwards.
  shed : (the_view (record h { files = v; ledger = l })).world ≡ with_queue (the_view h).world s (drop 1 (queue_at (the_view h).world s))
  shed =
      let w = (the_view h).world in
      world-is _ (with_socket w s popped) refl (ap (λ x. x.files) left) (ap (λ x. x.next) left) refl (ap (λ k. keys_of k.users) dropped ∙ users-dropped_all user attached (kept_of h.files.counts h.ledger)) ∙ popped_queue w s

  -- The view afterwards.
  seen : the_view (record h { files = v; ledger = l }) ≡ record (the_view h) { world = with_queue (the_view h).world s (drop 1 (queue_at (the_view h).world s)); message_room = v.message_room }
  seen = λ i. record { world = shed i; rows = h.procs.rows; message_room = v.message_room; marks = ap (λ x. x.marks) left i; since = ap (λ x. x.since) left i }

-- The view afterwards, by the view before.
ends : (before now after mid : HoldingsView) (f : ℕ) → after ≡ mid → mid ≡ record before { world = without_place before.world f; message_room = mid.message_room } → before ≡ now → after ≡ record now { world = without_place now.world f; message_room = after.message_room }
ends before now after mid f is changed view =
    let room = sym (ap (λ (s : HoldingsView). s.message_room) is) in
    is ∙ changed ∙ (λ i. record (view i) { world = without_place (view i).world f; message_room = room i })

-- The clause on what was popped, at a variant.
given : (c : goal.In-Some) (o : Popped) → c.in-Some.popped ≡ o → IsPopped (Some o) c.pop.new.attached.items (queue_at (the_view c.self.inside).world c.args.file.now) (backlog_at (the_view c.self.inside).world c.args.file.now)
given c o is = subst (λ o. IsPopped (Some o) c.pop.new.attached.items (queue_at (the_view c.self.inside).world c.args.file.now) (backlog_at (the_view c.self.inside).world c.args.file.now)) is c.in-Some.ensures.popped

-- The clause on the files that this left, at a variant.
parted : (c : goal.In-Some) (o : Popped) → c.in-Some.popped ≡ o → c.pop.new.self ≡ changed_queue (without_popped (Some o)) c.args.file.now c.pop.new.self.message_room c.self.inside.files
parted c o is = subst (λ o. c.pop.new.self ≡ changed_queue (without_popped (Some o)) c.args.file.now c.pop.new.self.message_room c.self.inside.files) is c.in-Some.ensures.rest

-- A pop that gave nothing changed nothing.
pub invariant_of-self : goal.invariant_of-self
invariant_of-self c =
    let h = c.self.inside in
    let w = (the_view h).world in
    let s = c.args.file.now in
    subst (λ fs. AreExact h.procs fs h.ledger) (sym c.in_default.ensures.rest) (exact-same _ _ _ _ (popped_queue w s ∙ none-popped w s c.in_default.ensures.popped.0) refl c.self.invariant)

-- The places of a message are counted.
pub uncharge_message-requires : goal.uncharge_message-requires
uncharge_message-requires c =
    let h = c.self.inside in
    let w = (the_view h).world in
    let s = c.args.file.now in
    let user = c.in-Message.user in
    let first = given (goal.at.uncharge_message-requires c).In-Some _ c.in-Message.is in
    let rest = parted (goal.at.uncharge_message-requires c).In-Some _ c.in-Message.is in
    let m : Message = record { bytes = first.0; attached = c.pop.new.attached.items; user = user } in
    let x = first-shed w s m (drop 1 (queue_at w s)) c.self.invariant.within first.1 in
    let can = can-drop-all w s m (drop 1 (queue_at w s)) x.0 (kept_of h.files.counts h.ledger) x.1 x.2 c.self.invariant.agrees in
    subst (λ (v : FilesView). CanDropAll user c.as_slice-files.result.now (kept_of v.counts h.ledger)) (sym rest)
    (subst (λ fs. CanDropAll user fs (kept_of h.files.counts h.ledger)) (sym c.as_slice-files.ensures) can)

-- The counts stay exact without a message.
pub invariant_of-self-in-Message : goal.invariant_of-self-in-Message
invariant_of-self-in-Message c =
    let h = c.self.inside in
    let w = (the_view h).world in
    let s = c.args.file.now in
    let user = c.in-Message.user in
    let u = c.uncharge_message in
    let first = given (goal.at.invariant_of-self-in-Message c).In-Some _ c.in-Message.is in
    let rest = parted (goal.at.invariant_of-self-in-Message c).In-Some _ c.in-Message.is in
    let m : Message = record { bytes = first.0; attached = c.pop.new.attached.items; user = user } in
    let x = first-shed w s m (drop 1 (queue_at w s)) c.self.invariant.within first.1 in
    exact-same _ _ _ _ (shed h s user m.attached c.as_slice-files.result.now _ c.pop.new.self u.new.files u.new.ledger rest c.as_slice-files.ensures u.ensures.kept u.ensures.rest) (dropped h s user m.attached c.as_slice-files.result.now _ c.pop.new.self u.new.files u.new.ledger rest c.as_slice-files.ensures u.ensures.kept u.ensures.rest)
    (exact-shed w s m (drop 1 (queue_at w s)) x.0 (kept_of h.files.counts h.ledger) x.1 x.2 c.self.invariant)

-- The place of an embryo is counted.
pub drop_one-requires : goal.drop_one-requires
drop_one-requires c =
    let h = c.self.inside in
    let w = (the_view h).world in
    let s = c.args.file.now in
    let n = c.in-Embryo.embryo in
    let first = given (goal.at.drop_one-requires c).In-Some _ c.in-Embryo.is in
    let rest = parted (goal.at.drop_one-requires c).In-Some _ c.in-Embryo.is in
    let x = first-embryo w s n first.1 in
    subst (λ (v : FilesView). IsCounted Backlog (count_in_map v.counts n)) (sym rest) (can-drop-backlog w s n x.0 (kept_of h.files.counts h.ledger) x.1 x.2 c.self.invariant.agrees).0

-- The counts stay exact without an embryo.
pub invariant_of-self-in-Embryo : goal.invariant_of-self-in-Embryo
invariant_of-self-in-Embryo c =
    let h = c.self.inside in
    let w = (the_view h).world in
    let s = c.args.file.now in
    let n = c.in-Embryo.embryo in
    let first = given (goal.at.invariant_of-self-in-Embryo c).In-Some _ c.in-Embryo.is in
    let rest = parted (goal.at.invariant_of-self-in-Embryo c).In-Some _ c.in-Embryo.is in
    let x = first-embryo w s n first.1 in
    subst (λ fs. AreExact h.procs fs h.ledger) (sym (c.drop_one.ensures ∙ ap (without_file_ref Backlog n) rest)) (exact-dequeued w s n x.0 (kept_of h.files.counts h.ledger) x.1 x.2 c.self.invariant)

-- The first message or embryo is gone, and all else is as it was.
pub returns-clause-world : goal.returns-clause-world
returns-clause-world c =
    let h = c.self.inside in
    let w = (the_view h).world in
    let s = c.args.file.now in
    let attached = c.pop.new.attached.items in
    elim c.match-popped.branch [
      | in-Message z ↦
          let u = z.uncharge_message in
          let first = given (goal.at.returns-clause-world c).In-Some _ z.in-Message.is in
          let rest = parted (goal.at.returns-clause-world c).In-Some _ z.in-Message.is in
          let gone = seen h s z.in-Message.user attached z.as_slice-files.result.now _ c.pop.new.self u.new.files u.new.ledger rest z.as_slice-files.ensures u.ensures.kept u.ensures.rest in
          let some : 0 < length (queue_at w s) = let long = ap length first.1 in omega (arith, long) in
          let lost = sym (lost-message w s some) in
          ends (the_view h) c.args.self.now c.match-popped.self _ s z.self-is (gone ∙ (λ i. record (the_view h) { world = lost i; message_room = u.new.files.message_room })) c.self.view_is
      | in-Embryo z ↦
          let n = z.in-Embryo.embryo in
          let first = given (goal.at.returns-clause-world c).In-Some _ z.in-Embryo.is in
          let rest = parted (goal.at.returns-clause-world c).In-Some _ z.in-Embryo.is in
          let gone = z.drop_one.ensures ∙ ap (without_file_ref Backlog n) rest in
          let world = ap (λ (v : FilesView). (the_view (record h { files = v })).world) gone ∙ sym (lost-embryo w s first.0) in
          ends (the_view h) c.args.self.now c.match-popped.self _ s z.self-is (λ i. record { world = world i; rows = h.procs.rows; message_room = z.drop_one.new.self.message_room; marks = ap (λ (v : FilesView). v.marks) gone i; since = ap (λ (v : FilesView). v.since) gone i }) c.self.view_is
    ]
