use Rattle.std.proofs.Common.{ℕ, subst}
use Rattle.af_base.specs.Places.{InTable}
use Rattle.af_collect.specs.Keeping.{NotBegunGarbage}
use Rattle.af_collect.proofs.SparedFiles.{tabled_spared}
use Rattle.af_collect.specs.StoreView.{StoreView}
use Rattle.af_collect.proofs.store.Store.lemma_is_spared.Goals as goal

pub returns : goal.returns
returns c = subst (λ (s : StoreView). (f : ℕ) → InTable s.world f → NotBegunGarbage s.pass f) c.self.view_is (λ f t. tabled_spared c.self.inside.progress.looked f c.self.invariant t)
