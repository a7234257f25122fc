use Rattle.af_report.proofs.QuotedNames.{name-harmless}
use Rattle.af_report.proofs.laws.names_stay_quoted.Goals as goal

pub returns : goal.returns
returns c = name-harmless
