use Rattle.std.proofs.Common.{◌≡◌, ◌≤◌, ◌+◌, ◌*◌, ◌++◌, length, map}
use Rattle.std.specs.FinMap as finmap
use Rattle.std.specs.List.{sum_by}
use Rattle.af_base.specs.Bare.{bare_file}
use Rattle.af_base.specs.Listing.{file_of}
use Rattle.af_base.specs.Places.{contents}
use Rattle.af_base.specs.declared.limits.TheConstants.{MAX_BACKLOG, MAX_FILES, MAX_MESSAGES, SCM_MAX_FD}
use Rattle.af_base.proofs.PlainLists.{entry, changed}
use Rattle.af_base.proofs.MapWalks.{above}
use Rattle.af_collect.proofs.holdings.Holdings.listed_files.Given as goal

abbrev pub invariant-loop-file : goal.invariant-loop-file
invariant-loop-file l = record {
  so_far :
      map (entry (λ x. x.ino) file_of) l.files.items ++ map (changed bare_file) (above l.last (finmap.entries l.self.world.files))
      ≡ map (changed bare_file) (above 0 (finmap.entries l.self.world.files));
  few : sum_by (λ x. length (contents (file_of x))) l.files.items + (MAX_MESSAGES * SCM_MAX_FD + MAX_BACKLOG) * length (above l.last (finmap.entries l.self.world.files)) ≤ MAX_FILES * (MAX_MESSAGES * SCM_MAX_FD + MAX_BACKLOG);
}

abbrev pub decreases-loop-file : goal.decreases-loop-file
decreases-loop-file l = length (above l.last (finmap.entries l.self.world.files))
