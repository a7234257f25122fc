use Rattle.std.proofs.Common.{rules}
use Rattle.af_desc.proofs.file_row.FileRow.is_bare.Goals as goal

pub returns-then-is_nameless-clause-silent : goal.returns-then-is_nameless-clause-silent
returns-then-is_nameless-clause-silent c = search rules
