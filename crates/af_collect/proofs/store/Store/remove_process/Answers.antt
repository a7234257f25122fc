use Rattle.std.proofs.Common.{◌∙◌, ◌≡◌, ℕ, ap, refl, subst, sym}
use Rattle.std.specs.Prelude.{Some}
use Rattle.af_base.specs.Changes.{remove_process}
use Rattle.af_base.specs.Places.{table_at}
use Rattle.af_base.specs.World.{World}
use Rattle.af_mark.specs.MarksView.{is_marked}
use Rattle.af_table.proofs.Tables.{remove-none}
use Rattle.af_collect.specs.HoldingsView.{HoldingsView}
use Rattle.af_collect.proofs.Exact.{exact-same, world-is}
use Rattle.af_collect.specs.Keeping.{PassInvariant, below}
use Rattle.af_collect.proofs.TablePlaces.{covers_remove_process, moves_remove_process}
use Rattle.af_collect.specs.StoreView.{KeepsPass, MarksAll, StoreView}
use Rattle.af_collect.specs.contracts.holdings.Holdings.{the_view}
use Rattle.af_collect.specs.declared.holdings.Holdings.TheInside.{Inside}
use Rattle.af_collect.specs.declared.store.Store.TheInside.{Inside as StoreInside}
use Rattle.af_collect.proofs.StoreInvariant.{kept_tables, kept-same, marks-shown, shown}
use Rattle.af_collect.proofs.store.Store.remove_process.Goals as goal

-- The files that a process loses were marked before, so the invariant of the pass holds.
kept : (p : StoreInside) (h : Inside) (old new : StoreView) (pid : ℕ) → the_view h ≡ p.holdings → shown p p.holdings ≡ new → new ≡ record old { marks = new.marks } → MarksAll (λ f. (n : ℕ) × (table_at old.world pid n ≡ Some f)) old new → KeepsPass (shown p p.holdings)
    → PassInvariant (remove_process (the_view h).world pid) p.begun.value.world h.files.marks p.progress
kept p h old new pid opened seen frame all k =
    let w = (the_view h).world in
    let begun = p.begun.value.world in
    let marked = marks-shown (λ v f. (n : ℕ) × (table_at v pid n ≡ Some f)) old new (shown p (the_view h)) (ap (shown p) opened ∙ seen) frame all in
    kept_tables (remove_process w pid) refl refl (λ _. moves_remove_process begun w pid) (λ t. covers_remove_process begun w pid (is_marked h.files.marks) (below p.progress.visited) (λ n f at. marked t f (n, at))) (subst (λ (t : HoldingsView). KeepsPass (shown p t)) (sym opened) k)

pub invariant_of-holdings : goal.invariant_of-holdings
invariant_of-holdings c =
    let h = c.holdings.inside in
    let rest = c.unref_table.ensures.rest in
    exact-same _ _ _ _ (world-is _ _ c.remove.ensures.processes (ap (λ v. v.files) rest) (ap (λ v. v.next) rest) c.remove.ensures.next refl) refl
    (c.unref_table.ensures.exact (the_view h).world h.ledger c.args.pid c.in-Some.ensures.there c.holdings.invariant)

pub invariant_of-self-2 : goal.invariant_of-self-2
invariant_of-self-2 c =
    let h = c.holdings.inside in
    let e = c.shade_table.ensures in
    let rest = c.unref_table.ensures.rest in
    kept-same _ (remove_process (the_view h).world c.args.pid) _ _ (world-is _ _ c.remove.ensures.processes (ap (λ v. v.files) rest) (ap (λ v. v.next) rest) c.remove.ensures.next refl) (ap (λ v. v.marks) rest)
    (kept c.self.inside h c.args.self.now c.shade_table.new.self c.args.pid c.holdings.view_is c.self.view_is e.frame e.marked c.self.invariant)

pub returns-in_default-clause-world : goal.returns-in_default-clause-world
returns-in_default-clause-world c =
    let w = (the_view c.holdings.inside).world in
    let none = remove-none w.processes c.args.pid c.in_default.ensures.none in
    let same : w ≡ c.args.self.now.world = ap (λ (p : HoldingsView). p.world) c.holdings.view_is ∙ ap (λ (s : StoreView). s.world) (c.self.view_is ∙ c.shade_table.ensures.frame) in
    ap (λ (p : HoldingsView). p.world) (sym c.holdings.view_is)
    ∙ ap {B = World} (λ m. record w { processes = m }) (sym none)
    ∙ ap (λ (v : World). remove_process v c.args.pid) same
