use Rattle.af_report.proofs.QuotedNames.{name-kept}
use Rattle.af_report.proofs.laws.names_stay_as_they_are.Goals as goal

pub returns : goal.returns
returns c = name-kept
