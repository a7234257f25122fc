use Rattle.std.proofs.Common.{subst}
use Rattle.af_base.specs.Whole.{IsWhole, IsWithin}
use Rattle.af_collect.specs.HoldingsView.{HoldingsView}
use Rattle.af_collect.proofs.holdings.Holdings.lemma_is_whole.Goals as goal

pub returns-clause-whole : goal.returns-clause-whole
returns-clause-whole c = subst (λ (s : HoldingsView). IsWhole s.world) c.self.view_is c.self.invariant.whole

pub returns-clause-within : goal.returns-clause-within
returns-clause-within c = subst (λ (s : HoldingsView). IsWithin s.world) c.self.view_is c.self.invariant.within
