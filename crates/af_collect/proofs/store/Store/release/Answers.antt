use Rattle.std.proofs.Common.{ap, subst}
use Rattle.af_base.specs.Unheld.{Settles}
use Rattle.af_base.proofs.SettledWorlds.{settles_none}
use Rattle.af_collect.specs.StoreView.{StoreView}
use Rattle.af_collect.proofs.store.Store.release.Goals as goal

-- Nothing is unreferenced, so nothing is to be freed.
pub returns-in_default-clause-settles : goal.returns-in_default-clause-settles
returns-in_default-clause-settles c = subst (λ w. Settles w w) (ap (λ (s : StoreView). s.world) c.self.view_is) (settles_none c.self.inside.holdings.world c.in_default.ensures.none.settled)
