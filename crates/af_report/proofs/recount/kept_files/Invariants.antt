-- Each number that was kept so far is its recount, and the files so far are kept.
use Rattle.std.proofs.Common.{◌≡◌, ◌++◌, length, map}
use Rattle.std.specs.FinMap as finmap
use Rattle.std.specs.List.{All}
use Rattle.af_plain.specs.Agreement.{IsFileRecount}
use Rattle.af_base.proofs.MapWalks.{above}
use Rattle.af_report.proofs.recount.kept_files.Given as goal

abbrev pub invariant-loop-file : goal.invariant-loop-file
invariant-loop-file l = record {
  recounts : All (IsFileRecount l.engine.world) l.files.items;
  so_far : map (λ k. k.ino) l.files.items ++ map (λ e. e.0) (above l.last (finmap.entries l.engine.world.files)) ≡ finmap.keys l.engine.world.files;
}

abbrev pub decreases-loop-file : goal.decreases-loop-file
decreases-loop-file l = length (above l.last (finmap.entries l.engine.world.files))
