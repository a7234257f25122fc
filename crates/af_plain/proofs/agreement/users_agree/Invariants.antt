use Rattle.std.proofs.Common.{take}
use Rattle.std.specs.List.{All}
use Rattle.af_plain.specs.Agreement.{IsUserRecount}
use Rattle.af_plain.proofs.agreement.users_agree.Given as goal

abbrev pub invariant-loop-user : goal.invariant-loop-user
invariant-loop-user l = All (IsUserRecount l.listing) (take l.user-index l.kept)
