use Rattle.std.proofs.Common.{ap, ◌∙◌}
use Rattle.scmgc.specs.Race.{outcome_text, race_lines}
use Rattle.scmgc.proofs.program.race_text.Goals as goal

pub returns : goal.returns
returns g c =
    let outcome = c.in_ok-outcome.outcome in
    let told = c.in_ok-outcome.ensures in
    let counted = c.totals-totals.ensures in
    record {
      book = outcome.closed.book;
      raced = told.raced;
      all_steps = told.steps;
      lines = c.in_ok-text.ensures ∙ (λ i. race_lines (counted.steps i) (counted.left i)) ∙ ap (λ n. outcome_text n outcome.closed.book) told.workers;
    }
