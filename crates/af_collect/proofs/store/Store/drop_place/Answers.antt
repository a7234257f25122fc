use Rattle.std.proofs.Common.{sym, subst, ◌∙◌}
use Rattle.af_base.specs.Whole.{IsWhole}
use Rattle.af_collect.specs.Losing.{without_place}
use Rattle.af_collect.specs.HoldingsView.{HoldingsView}
use Rattle.af_collect.specs.Keeping.{PassInvariant}
use Rattle.af_collect.specs.StoreView.{KeepsPass, StoreView}
use Rattle.af_collect.proofs.LostFiles.{kept_lost}
use Rattle.af_collect.proofs.store.Store.drop_place.Goals as goal

-- The lost files are marked, while marking.
pub invariant_of-self : goal.invariant_of-self
invariant_of-self c =
    let q = c.self-2.inside in
    let f = c.args.file.now in
    let frame = c.self-2.view_is ∙ c.shade_first.ensures.frame in
    let whole = subst (λ (t : StoreView). IsWhole t.world) c.self.view_is c.lemma_is_whole.ensures.whole in
    let lost = kept_lost f whole c.requires.live c.requires.unheld c.shade_first.new.self.marks c.shade_first.ensures.marked (subst KeepsPass c.self.view_is c.self.invariant) (subst KeepsPass frame c.self-2.invariant) in
    subst (λ (s : HoldingsView). PassInvariant s.world q.begun.value.world s.marks q.progress) (sym c.drop_place.ensures.world)
    (subst (λ (t : StoreView). PassInvariant (without_place t.world f) t.begun t.marks t.progress) (sym frame) lost)
