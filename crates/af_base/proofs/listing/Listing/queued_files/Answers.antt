use Rattle.std.proofs.Common.{ap, ◌∙◌}
use Rattle.af_base.specs.Counts.{count_in, inflight}
use Rattle.af_base.proofs.listing.Listing.queued_files.Goals as goal

pub returns-clause-each : goal.returns-clause-each
returns-clause-each c = λ f. ap (count_in f) c.as_slice.ensures.value ∙ c.self.invariant.each_queued.each f ∙ ap (λ w. inflight w f) c.self.view_is
