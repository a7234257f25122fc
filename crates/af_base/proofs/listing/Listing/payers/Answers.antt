use Rattle.std.proofs.Common.{ap, ◌∙◌}
use Rattle.af_base.specs.Counts.{count_in, charged}
use Rattle.af_base.proofs.listing.Listing.payers.Goals as goal

pub returns-clause-each : goal.returns-clause-each
returns-clause-each c = λ f. ap (count_in f) c.as_slice.ensures.value ∙ c.self.invariant.each_payer.each f ∙ ap (λ w. charged w f) c.self.view_is
