use Rattle.std.proofs.Common.{◌≡◌, ◌∙◌, ℕ, ap, arith, false, subst, sym}
use Rattle.af_base.specs.Whole.{IsWhole}
use Rattle.af_mark.specs.MarksView.{MarksView, is_grey}
use Rattle.af_collect.specs.Collecting.{NoneLive}
use Rattle.af_collect.specs.Keeping.{PassInvariant}
use Rattle.af_collect.specs.Looks.{MarksByLooks}
use Rattle.af_collect.specs.StoreView.{StoreView}
use Rattle.af_collect.specs.declared.progress.Stage.TheVariants.{Marking, Sweeping}
use Rattle.af_collect.proofs.PassChanges.{kept_finish}
use Rattle.af_collect.proofs.Looks.{looks-join, looks-none}
use Rattle.af_collect.proofs.store.Store.mark_unit.Goals as goal

-- All files are visited and none is grey: so marking ends.
pub invariant_of-self-2 : goal.invariant_of-self-2
invariant_of-self-2 c =
    let now = c.args.self.now in
    let q = c.self-2.inside in
    let none = c.scan.ensures.none c.if-scan.false in
    let unvisited = subst (λ n. NoneLive now.world n now.marks.bound) (ap (λ (t : StoreView). t.progress.visited) c.self.view_is) c.in_default.ensures.none in
    let r = subst (λ (t : StoreView). IsWhole t.world × (t.progress.stage ≡ Marking) × NoneLive t.world t.progress.visited t.marks.bound × ((f : ℕ) → is_grey t.marks f ≡ false)) (sym (c.self-2.view_is ∙ none.0)) (c.requires.sound.whole, c.requires.marking, unvisited, none.1) in
    subst (λ n. PassInvariant q.holdings.world q.begun.value.world q.holdings.marks (record q.progress { stage = Sweeping; visited = n })) (sym (ap (λ (m : MarksView). m.bound) c.files.ensures.marks) ∙ sym c.bound.ensures ∙ sym c.self-3.view_is)
    (kept_finish q.holdings.marks q.progress r.0 r.1 r.2 r.3 c.self-2.invariant)

-- A visit takes a unit at least.
pub returns-in-Some-clause-marks : goal.returns-in-Some-clause-marks
returns-in-Some-clause-marks c =
    let h = c.self.inside.holdings in
    let last = c.visit.new.self.marks in
    subst (λ (t : StoreView). MarksByLooks t.world c.visit.result t.marks last) c.self.view_is (looks-join h.world 1 0 c.visit.result (omega (arith, c.visit.ensures.units.0)) h.marks last last c.visit.ensures.marks (looks-none h.world 0 last))

-- At the end nothing is marked.
pub returns-clause-marks : goal.returns-clause-marks
returns-clause-marks c =
    let now = c.args.self.now in
    subst (λ (t : StoreView). MarksByLooks now.world 0 now.marks t.marks) (sym (c.self-2.view_is ∙ (c.scan.ensures.none c.if-scan.false).0)) (looks-none now.world 0 now.marks)
