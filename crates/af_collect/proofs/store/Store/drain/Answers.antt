use Rattle.std.proofs.Common.{sym, subst, ◌∙◌}
use Rattle.af_base.specs.Places.{Holds}
use Rattle.af_collect.specs.HoldingsView.{HoldingsView}
use Rattle.af_collect.specs.Keeping.{NotBegunGarbage, PassInvariant}
use Rattle.af_collect.specs.StoreView.{StoreView}
use Rattle.af_collect.proofs.DrainedSockets.{kept_drained}
use Rattle.af_collect.proofs.StoreInvariant.{marks-shown, shown}
use Rattle.af_collect.proofs.store.Store.drain.Goals as goal

-- What the socket held is marked, while marking.
pub invariant_of-self : goal.invariant_of-self
invariant_of-self c =
    let p = c.self.inside in
    let s = c.args.socket.now in
    let e = c.shade_held.ensures in
    let spared = subst (λ (t : StoreView). NotBegunGarbage t.pass s) (sym (c.self.view_is
    ∙ e.frame)) c.requires.spared in
    let marked = marks-shown (λ w. Holds w s) c.args.self.now c.shade_held.new.self
    (shown p p.holdings) c.self.view_is e.frame e.marked in
    subst (λ (h : HoldingsView). PassInvariant h.world p.begun.value.world h.marks p.progress)
    (sym c.empty.ensures) (kept_drained s p.progress.looked spared marked c.self.invariant)
