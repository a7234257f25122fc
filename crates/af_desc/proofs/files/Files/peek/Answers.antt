use Rattle.std.proofs.Common.{rules}
use Rattle.af_desc.proofs.files.Files.peek.Goals as goal

pub returns-in-Some : goal.returns-in-Some
returns-in-Some c = search rules
