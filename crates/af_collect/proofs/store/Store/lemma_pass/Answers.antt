use Rattle.std.proofs.Common.{subst}
use Rattle.af_base.specs.Pass.{IsInTime}
use Rattle.af_collect.specs.StoreView.{StoreView}
use Rattle.af_collect.proofs.VisiblePass.{in_time}
use Rattle.af_collect.proofs.store.Store.lemma_pass.Goals as goal

pub returns-clause-in_time : goal.returns-clause-in_time
returns-clause-in_time c = subst (λ (s : StoreView). IsInTime s.pass) c.self.view_is (in_time _ _ _ _ c.self.invariant)
