use Rattle.std.proofs.Common.{ap, refl, sym, subst}
use Rattle.af_base.specs.Whole.{IsSound}
use Rattle.af_collect.specs.HoldingsView.{HoldingsView}
use Rattle.af_collect.specs.Keeping.{PassInvariant}
use Rattle.af_collect.specs.StoreView.{StoreView}
use Rattle.af_collect.proofs.PassChanges.{kept_begin}
use Rattle.af_collect.proofs.store.Store.begin.Goals as goal

-- The marks begin anew, and the world of the begin is the world now.
pub invariant_of-self : goal.invariant_of-self
invariant_of-self c =
    let h = c.self.inside.holdings in
    let e = c.start_epoch.ensures in
    let sound = subst (λ (t : StoreView). IsSound t.world) (sym c.self.view_is) c.requires.sound in
    subst (λ v. PassInvariant c.start_epoch.new.self.world v c.start_epoch.new.self.marks _) (sym (ap (λ (s : HoldingsView). s.world) c.of.ensures))
    (subst (λ v. PassInvariant v h.world c.start_epoch.new.self.marks _) (sym (ap (λ (s : HoldingsView). s.world) e.rest))
    (kept_begin h.world h.marks c.start_epoch.new.self.marks _ sound c.self.invariant.known e.unmarked e.known e.bound refl))
