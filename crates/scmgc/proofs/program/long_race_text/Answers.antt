use Rattle.std.proofs.Common.{sym, ◌∙◌}
use Rattle.scmgc.specs.Race.Parts.{with_log}
use Rattle.scmgc.specs.Race.{race_lines}
use Rattle.scmgc.proofs.program.long_race_text.Goals as goal

pub returns : goal.returns
returns g c =
    let told = c.in_ok-outcome.ensures in
    let log = told.raced in
    let counted = c.totals-totals.ensures in
    let steps = counted.steps ∙ log.2 in
    record {
      book = with_log c.in_ok-outcome.outcome.book log.0;
      raced = log.1;
      all_steps = sym log.2 ∙ told.steps;
      lines = c.in_ok-text.ensures ∙ (λ i. race_lines (steps i) (counted.left i));
    }
