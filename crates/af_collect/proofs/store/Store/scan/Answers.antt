use Rattle.std.proofs.Common.{◌+◌, ◌∙◌, ap, sym, subst}
use Rattle.af_base.specs.Places.{held_by}
use Rattle.af_collect.specs.HoldingsView.{HoldingsView}
use Rattle.af_collect.specs.Keeping.{PassInvariant}
use Rattle.af_collect.proofs.PassChanges.{kept_scan}
use Rattle.af_collect.proofs.ShadedMarks.{shaded_all_after}
use Rattle.af_collect.specs.Looks.{MarksByLooks}
use Rattle.af_collect.specs.StoreView.{StoreView}
use Rattle.af_collect.proofs.Looks.{looks-scan}
use Rattle.af_collect.proofs.store.Store.scan.Goals as goal

-- All files that the file holds are marked, and it is black.
pub invariant_of-self-2 : goal.invariant_of-self-2
invariant_of-self-2 c =
    let p = c.self.inside in
    let begun = p.begun.value.world in
    let x = c.in-Some.field-0 in
    let e = c.in-Some.ensures.some in
    let d = record p.progress { looked = p.progress.looked + 1 } in
    let marking = ap (λ (t : StoreView). t.progress.stage) c.self.view_is ∙ c.requires.marking in
    subst (λ (s : HoldingsView). PassInvariant s.world begun s.marks d) (sym e.1)
    (subst (λ m. PassInvariant p.holdings.world begun m d) (sym (shaded_all_after (held_by p.holdings.world x) p.holdings.marks x e.0))
    (kept_scan p.holdings.marks p.progress x c.lemma_is_whole.ensures.whole marking e.0 c.self.invariant))

-- The scan looked at this file.
pub returns-clause-marks : goal.returns-clause-marks
returns-clause-marks c =
    let h = c.self.inside.holdings in
    subst (λ (t : StoreView). MarksByLooks t.world 1 t.marks c.scan_next.new.self.marks) c.self.view_is (subst (λ (s : HoldingsView). MarksByLooks h.world 1 h.marks s.marks) (sym c.in-Some.ensures.some.1) (looks-scan h.world c.in-Some.field-0 h.marks))
