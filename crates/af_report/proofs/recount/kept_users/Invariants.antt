-- Each number that was kept so far is its recount, and the users so far are kept.
use Rattle.std.proofs.Common.{◌≡◌, ◌++◌, drop, map}
use Rattle.std.specs.List.{All}
use Rattle.af_plain.specs.Agreement.{IsUserRecount}
use Rattle.af_report.proofs.recount.kept_users.Given as goal

abbrev pub invariant-loop-i : goal.invariant-loop-i
invariant-loop-i l = record {
  recounts : All (IsUserRecount l.engine.world) l.users.items;
  so_far : map (λ k. k.user) l.users.items ++ drop l.i l.engine.world.users ≡ l.engine.world.users;
}
