use Rattle.std.proofs.Common.{◌≡◌, ap, refl, subst, sym, ◌∙◌}
use Rattle.std.specs.Prelude.{Ok, Result, option_copied, unwrap_or, ⊤}
use Rattle.af_base.specs.Changes.{with_socket}
use Rattle.af_base.specs.Whole.{IsWhole, IsWithin}
use Rattle.af_base.specs.World.{World}
use Rattle.af_desc.specs.FilesView.{FilesView, turned}
use Rattle.af_ledger.specs.Tally.{kept_of}
use Rattle.af_collect.specs.StoreView.{StoreView}
use Rattle.af_collect.specs.contracts.holdings.Holdings.{the_view}
use Rattle.af_collect.proofs.DrainedSockets.{Aims, IsCleared, cleared-drained, cleared-still, exact-turned}
use Rattle.af_collect.proofs.StoreInvariant.{BothInvariants, seen-changed, seen-world, shown, stands-socket, stood}
use Rattle.af_collect.proofs.store.Store.aim.Goals.{After-aim, else-loses, then-loses}
use Rattle.af_collect.proofs.store.Store.aim.Goals as goal

-- What the socket loses is lost before its target changes.
cleared : (c : After-aim)
    → IsCleared c.args.self.now.world c.if-loses.self.world c.args.socket.now
    (option_copied c.args.target)
cleared c =
    let old = c.args.self.now.world in
    let s = c.args.socket.now in
    let target = option_copied c.args.target in
    let r = c.requires in
    let asked : Aims old s target c.args.loses = (r.socket, r.datagrams, r.target, r.loses) in
    elim c.if-loses.branch [
      | then-loses d ↦
          let fits = subst (λ (t : StoreView). IsWhole t.world
          × IsWithin t.world) d.self.view_is (
            d.lemma_is_whole.ensures.whole,
            d.lemma_is_whole.ensures.within,
          ) in
          subst (λ (t : StoreView). IsCleared old t.world s target) (sym (d.self-is
          ∙ d.drain.ensures)) (cleared-drained old s target fits.0 fits.1
          (subst (Aims old s target) d.if-loses.true asked))
      | else-loses d ↦ subst (λ (t : StoreView). IsCleared old t.world s target) (sym d.self-is) (cleared-still old s target (subst (Aims old s target) d.if-loses.false asked))
    ]

both : (c : After-aim)
    → BothInvariants c.self-2.inside c.holdings.inside.procs c.aim.new.self c.holdings.inside.ledger
both c =
    let p = c.self-2.inside in
    let h = c.holdings.inside in
    let w = (the_view h).world in
    let s = c.args.socket.now in
    let target = option_copied c.args.target in
    let was = stood p h c.holdings.view_is c.holdings.invariant c.self-2.invariant in
    let clear = subst (λ (v : World). IsCleared c.args.self.now.world v s target)
    (seen-world p h _ c.holdings.view_is c.self-2.view_is) (cleared c) in
    let done : Result ⊤ ⊤ = Ok tt in
    stands-socket done p h _ tt was s (turned (unwrap_or target 0)) (λ x. refl) c.aim.ensures
    (exact-turned w s target c.args.self.now.world (kept_of h.files.counts h.ledger) clear
    was.0)

pub invariant_of-holdings : goal.invariant_of-holdings
invariant_of-holdings c = (both c).0

pub invariant_of-self : goal.invariant_of-self
invariant_of-self c = (both c).1

-- Nothing but the world, marks and room has changed before.
frame : (c : After-aim) → let t = c.if-loses.self in t
    ≡ record c.args.self.now { world = t.world; marks = t.marks; message_room = t.message_room }
frame c = elim c.if-loses.branch [
  | then-loses d ↦ subst (λ (t : StoreView). t ≡ record c.args.self.now { world = t.world; marks = t.marks; message_room = t.message_room }) (sym (d.self-is ∙ d.drain.ensures)) refl
  | else-loses d ↦ subst (λ (t : StoreView). t ≡ record c.args.self.now { world = t.world; marks = t.marks; message_room = t.message_room }) (sym d.self-is) refl
]

pub returns : goal.returns
returns c =
    let p = c.self-2.inside in
    let h = c.holdings.inside in
    let o = c.if-loses.self in
    let s = c.args.socket.now in
    let to = unwrap_or (option_copied c.args.target) 0 in
    let opened : shown p (the_view h) ≡ o = ap (shown p) c.holdings.view_is ∙ c.self-2.view_is in
    let marks = ap (λ (t : StoreView). t.marks) (sym opened)
    ∙ sym (ap (λ (v : FilesView). v.marks) c.aim.ensures) in
    let room = ap (λ (t : StoreView). t.message_room) (sym opened)
    ∙ sym (ap (λ (v : FilesView). v.message_room) c.aim.ensures) in
    (λ i. shown p (the_view (record h { files = c.aim.ensures i })))
    ∙ seen-changed p h o (λ v. with_socket v s (turned to)) c.holdings.view_is c.self-2.view_is
    ∙ ap {A = StoreView} {B =
    StoreView} (λ t. record t { world = with_socket o.world s (turned to) }) (frame c)
    ∙ (λ i. record c.args.self.now {
      world = (cleared c).5 i;
      marks = marks i;
      message_room =
          room i;
    })
