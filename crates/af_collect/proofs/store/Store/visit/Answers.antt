use Rattle.std.proofs.Common.{◌≡◌, ◌+◌, ap, sym, subst, ◌∙◌}
use Rattle.af_collect.specs.HoldingsView.{HoldingsView}
use Rattle.af_collect.specs.Collecting.{IsFirstFrom}
use Rattle.af_collect.specs.Keeping.{PassInvariant, units_of}
use Rattle.af_collect.specs.declared.progress.Stage.TheVariants.{Marking}
use Rattle.af_collect.proofs.PassChanges.{kept_visit}
use Rattle.af_collect.specs.Looks.{MarksByLooks}
use Rattle.af_collect.specs.StoreView.{StoreView}
use Rattle.af_collect.proofs.Looks.{looks-visit}
use Rattle.af_collect.proofs.store.Store.visit.Goals as goal
use Rattle.af_collect.proofs.store.Store.visit.Goals.{then-scanned, else-scanned}

-- The file is marked if a table holds it, and the cursor passes it.
pub invariant_of-self : goal.invariant_of-self
invariant_of-self c =
    let p = c.self.inside in
    let begun = p.begun.value.world in
    let x = c.args.file.now in
    let e = c.visit-scanned.ensures in
    let s = c.visit-scanned.result in
    let new = c.visit-scanned.new.self in
    let units : units_of s ≡ c.from.result = elim c.if-scanned.branch [
      | then-scanned w ↦ ap units_of w.if-scanned.true ∙ sym w.units-is ∙ sym c.from.ensures
      | else-scanned w ↦ ap units_of w.if-scanned.false ∙ sym w.units-is ∙ sym c.from.ensures
    ] in
    let r = subst (λ (t : StoreView). (t.progress.stage ≡ Marking) × IsFirstFrom t.progress.visited t.world t.marks x) (sym c.self.view_is) (c.requires.marking, c.requires.first) in
    let k = kept_visit s p.holdings.marks p.progress x e.scanned c.lemma_is_whole.ensures.whole r.0 r.1.0 r.1.1.0 r.1.1.1 r.1.2 c.self.invariant in
    let past = subst (λ (t : HoldingsView). PassInvariant t.world begun t.marks (record p.progress { visited = x + 1; looked = p.progress.looked + units_of s })) (sym e.marks) k in
    let after = subst (λ n. PassInvariant new.world begun new.marks (record p.progress { visited = x + 1; looked = p.progress.looked + n })) units past in
    subst (λ n. PassInvariant new.world begun new.marks (record p.progress { visited = n + 1; looked = p.progress.looked + c.from.result })) (sym c.ino.ensures ∙ sym c.self-2.view_is) after

-- The visit looked at this file.
pub returns-clause-marks : goal.returns-clause-marks
returns-clause-marks c =
    let h = c.self.inside.holdings in
    subst (λ (t : StoreView). MarksByLooks t.world 1 t.marks c.visit-scanned.new.self.marks) c.self.view_is (subst (λ (s : HoldingsView). MarksByLooks h.world 1 h.marks s.marks) (sym c.visit-scanned.ensures.marks) (looks-visit h.world c.visit-scanned.result c.args.file.now _ h.marks))
