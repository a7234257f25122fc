use Rattle.std.proofs.Common.{ap, refl, subst, sym}
use Rattle.af_base.specs.Changes.{install}
use Rattle.af_base.specs.World.{IsLive, World}
use Rattle.af_ledger.specs.Tally.{kept_of}
use Rattle.af_mark.specs.MarksView.{is_marked}
use Rattle.af_collect.proofs.Bounds.{can-hold-table}
use Rattle.af_collect.proofs.Exact.{CanInstall, exact-opened, world-is}
use Rattle.af_collect.specs.Keeping.{NotBegunGarbage, below}
use Rattle.af_collect.proofs.TablePlaces.{covers_install, moves_install}
use Rattle.af_collect.proofs.SparedFiles.{spared_running}
use Rattle.af_collect.specs.StoreView.{StoreView}
use Rattle.af_collect.specs.contracts.holdings.Holdings.{the_view}
use Rattle.af_collect.proofs.StoreInvariant.{kept_tables, BothInvariants, both-same, seen-world, stood}
use Rattle.af_collect.proofs.store.Store.table_in.Goals as goal

pub hold-requires-clause-countable : goal.hold-requires-clause-countable
hold-requires-clause-countable c = (can-hold-table (the_view c.holdings.inside).world c.args.file (kept_of c.holdings.inside.files.counts c.holdings.inside.ledger) c.holdings.invariant.within c.holdings.invariant.agrees).0

both : (c : goal.After-install) → BothInvariants c.self.inside c.install.new.self c.hold.new.self c.holdings.inside.ledger
both c =
    let p = c.self.inside in
    let h = c.holdings.inside in
    let w = (the_view h).world in
    let begun = p.begun.value.world in
    let pid = c.args.pid in
    let fd = c.args.fd in
    let f = c.args.file in
    let was = stood p h c.holdings.view_is c.holdings.invariant c.self.invariant in
    let back = seen-world c.self.inside c.holdings.inside _ c.holdings.view_is c.self.view_is in
    let can = subst (λ (v : World). CanInstall v pid fd) back (c.requires.there, c.requires.limit, c.requires.free) in
    let live = subst (λ (v : World). IsLive v f) back c.requires.live in
    let spared = subst (λ (t : StoreView). NotBegunGarbage t.pass f) (sym c.self.view_is) c.requires.spared in
    both-same _ (install w pid fd f) _ _ _ _ (world-is _ _ c.install.ensures.processes (ap (λ v. v.files) c.hold.ensures) (ap (λ v. v.next) c.hold.ensures) c.install.ensures.next refl) (ap (λ v. kept_of v.counts h.ledger) c.hold.ensures) (ap (λ v. v.marks) c.hold.ensures)
    (exact-opened w pid fd f (kept_of h.files.counts h.ledger) can live was.0)
    (kept_tables (install w pid fd f) refl refl (λ e. moves_install begun w pid fd f (spared_running p.progress.stage begun p.progress.looked f e spared)) (λ _. covers_install begun w pid fd f (is_marked h.files.marks) (below p.progress.visited) can.2) was.1)

pub invariant_of-holdings : goal.invariant_of-holdings
invariant_of-holdings c = (both c).0

pub invariant_of-self : goal.invariant_of-self
invariant_of-self c = (both c).1
