use Rattle.std.proofs.Common.{ap, ◌∙◌}
use Rattle.af_base.specs.Counts.{count_in, refs}
use Rattle.af_base.proofs.listing.Listing.held_files.Goals as goal

pub returns-clause-each : goal.returns-clause-each
returns-clause-each c = λ f. ap (count_in f) c.as_slice.ensures.value ∙ c.self.invariant.each_held.each f ∙ ap (λ w. refs w f) c.self.view_is
