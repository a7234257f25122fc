use Rattle.std.proofs.Common.{◌≡◌, ap, sym, ◌∙◌, subst}
use Rattle.af_base.specs.Counts.{refs}
use Rattle.af_base.specs.World.{IsLive}
use Rattle.af_collect.specs.HoldingsView.{HoldingsView}
use Rattle.af_collect.specs.Keeping.{is_marking}
use Rattle.af_collect.specs.StoreView.{KeepsPass, StoreView}
use Rattle.af_collect.proofs.LostFiles.{kept_first}
use Rattle.af_collect.proofs.StoreInvariant.{shown}
use Rattle.af_collect.proofs.store.Store.shade_first.Goals as goal

-- Nothing holds the file, so what it would lose is no garbage.
pub invariant_of-self : goal.invariant_of-self
invariant_of-self c =
    let p = c.self.inside in
    let x = c.args.file.now in
    let t = ap (λ (o : StoreView). is_marking o.progress.stage) c.self.view_is ∙ sym c.is_marking.ensures ∙ c.if-is_marking.true in
    let r = subst (λ (o : StoreView). IsLive o.world x × (refs o.world x ≡ 0)) (sym c.self.view_is) (c.requires.live, c.requires.unheld) in
    subst (λ (h : HoldingsView). KeepsPass (shown p h)) (sym c.shade_first.ensures) (kept_first x c.lemma_is_whole.ensures.whole r.0 r.1 t c.self.invariant)
