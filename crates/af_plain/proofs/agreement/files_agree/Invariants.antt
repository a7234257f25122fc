use Rattle.std.proofs.Common.{take}
use Rattle.std.specs.List.{All}
use Rattle.af_plain.specs.Agreement.{IsFileRecount}
use Rattle.af_plain.proofs.agreement.files_agree.Given as goal

abbrev pub invariant-loop-file : goal.invariant-loop-file
invariant-loop-file l = All (IsFileRecount l.listing) (take l.file-index l.kept)
