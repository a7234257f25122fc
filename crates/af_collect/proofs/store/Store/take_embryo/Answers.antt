use Rattle.std.proofs.Common.{rules, ◌∙◌, ◌∷◌, ◌≡◌, ℕ, ap, drop, refl, subst, sym, true}
use Rattle.std.specs.Prelude.{IfSome, Some, slice_get}
use Rattle.af_base.specs.Changes.{dequeued, install, with_socket}
use Rattle.af_base.specs.Places.{backlog_at}
use Rattle.af_base.specs.Reached.{Garbage}
use Rattle.af_base.specs.World.{World}
use Rattle.af_desc.specs.FilesView.{FilesView, with_moved_ref}
use Rattle.af_ledger.specs.Counted.{IsCountable, IsCounted}
use Rattle.af_ledger.specs.Tally.{count_in_map, kept_of}
use Rattle.af_ledger.specs.declared.place.Place.TheVariants.{Backlog, Table}
use Rattle.af_mark.specs.MarksView.{is_marked}
use Rattle.af_collect.proofs.SocketStates.{embryo-taken, exact-accepted}
use Rattle.af_collect.proofs.Bounds.{can-drop-backlog, can-hold-table}
use Rattle.af_collect.proofs.CountChanges.{moved-is}
use Rattle.af_collect.proofs.Exact.{CanInstall, world-is}
use Rattle.af_collect.specs.Keeping.{NotBegunGarbage, below, is_running}
use Rattle.af_collect.proofs.TablePlaces.{covers_install, moves_install}
use Rattle.af_collect.proofs.SocketChanges.{covers_dequeued, moves_dequeued}
use Rattle.af_collect.proofs.SparedFiles.{held_spared, marking_runs, spared_running}
use Rattle.af_collect.specs.StoreView.{StoreView}
use Rattle.af_collect.specs.contracts.holdings.Holdings.{the_view}
use Rattle.af_collect.proofs.LostFiles.{embryo_held, first_taken}
use Rattle.af_collect.proofs.StoreInvariant.{kept_socket, kept_tables, BothInvariants, both-same, marks-shown, shown, stood}
use Rattle.af_collect.proofs.store.Store.take_embryo.Goals as goal

pub move_to_table-requires-clause-counted : goal.move_to_table-requires-clause-counted
move_to_table-requires-clause-counted c =
    let h = c.holdings.inside in
    let w = (the_view h).world in
    let s = c.args.listener.now in
    let f = c.unwrap-embryo.result in
    let x = embryo-taken w s f c.dequeue.result c.unwrap-embryo.ensures c.dequeue.ensures.some in
    subst (λ (v : FilesView). IsCounted Backlog (count_in_map v.counts f)) (sym c.dequeue.ensures.rest) (can-drop-backlog w s f x.0 (kept_of h.files.counts h.ledger) x.1 x.2 c.holdings.invariant.agrees).0

pub move_to_table-requires-clause-countable : goal.move_to_table-requires-clause-countable
move_to_table-requires-clause-countable c =
    let h = c.holdings.inside in
    let f = c.unwrap-embryo.result in
    subst (λ (v : FilesView). IsCountable Table (count_in_map v.counts f)) (sym c.dequeue.ensures.rest) (can-hold-table (the_view h).world f (kept_of h.files.counts h.ledger) c.holdings.invariant.within c.holdings.invariant.agrees).0

both : (c : goal.After-install) → BothInvariants c.self.inside c.install.new.self c.move_to_table.new.self c.holdings.inside.ledger
both c =
    let p = c.self.inside in
    let h = c.holdings.inside in
    let w = (the_view h).world in
    let begun = p.begun.value.world in
    let s = c.args.listener.now in
    let pid = c.args.pid in
    let fd = c.args.fd in
    let f = c.unwrap-embryo.result in
    let e = c.shade_embryo.ensures in
    let was = stood p h c.holdings.view_is c.holdings.invariant c.self.invariant in
    let seen : shown p (the_view h) ≡ c.shade_embryo.new.self = ap (shown p) c.holdings.view_is ∙ c.self.view_is in
    let back = sym (ap (λ (t : StoreView). t.world) (seen ∙ e.frame)) in
    let x = embryo-taken w s f c.dequeue.result c.unwrap-embryo.ensures c.dequeue.ensures.some in
    let can = subst (λ (v : World). CanInstall v pid fd) back (c.requires.there, c.requires.limit, c.requires.free) in
    let files = c.move_to_table.ensures ∙ ap (with_moved_ref Backlog f) c.dequeue.ensures.rest ∙ moved-is Backlog f _ in
    let spared = subst (λ (t : StoreView). NotBegunGarbage t.pass s) (sym (seen ∙ e.frame)) c.requires.spared in
    let marked = marks-shown (λ v g. slice_get (backlog_at v s) 0 ≡ Some g) c.args.self.now c.shade_embryo.new.self (shown p (the_view h)) seen e.frame e.marked in
    let stray : (g : ℕ) → slice_get (backlog_at w s) 0 ≡ Some g → is_running p.progress.stage ≡ true → ¬ (Garbage begun g) = λ g is run. spared_running p.progress.stage begun p.progress.looked g run (held_spared p.progress.looked s g was.1 (embryo_held w s g (first_taken (backlog_at w s) g is)) spared) in
    let first : slice_get (backlog_at w s) 0 ≡ Some f = ap (λ xs. slice_get xs 0) (subst (λ o. IfSome o (λ g. backlog_at w s ≡ g ∷ drop 1 (backlog_at w s))) c.unwrap-embryo.ensures c.dequeue.ensures.some) in
    let v = with_socket w s dequeued in
    subst (λ fs. BothInvariants p c.install.new.self fs h.ledger) (sym files) (both-same _ (install v pid fd f) _ _ _ _ (world-is _ _ c.install.ensures.processes refl refl c.install.ensures.next refl) refl refl
    (exact-accepted w s f x.0 (kept_of h.files.counts h.ledger) x.1 x.2 was.0 pid fd can)
    (kept_tables (install v pid fd f) refl refl (λ t. moves_install begun v pid fd f (stray f first t)) (λ _. covers_install begun v pid fd f (is_marked h.files.marks) (below p.progress.visited) can.2)
    (kept_socket s dequeued (λ _. moves_dequeued begun w s) (λ t. covers_dequeued begun w s (is_marked h.files.marks) (below p.progress.visited) (marked t) (λ g is. stray g is (marking_runs p.progress.stage t))) was.1)))

pub invariant_of-holdings : goal.invariant_of-holdings
invariant_of-holdings c = (both c).0

pub invariant_of-self : goal.invariant_of-self
invariant_of-self c = (both c).1

pub returns : goal.returns
returns c = search rules
