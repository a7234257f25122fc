use Rattle.std.proofs.Common.{◌≡◌, ◌≤◌, ◌+◌, ◌*◌, ◌++◌, length, map, drop}
use Rattle.std.specs.List.{All, sum_by}
use Rattle.af_base.specs.Bare.{bare_process}
use Rattle.af_base.specs.Listing.{IsRisingTable, process_of}
use Rattle.af_base.specs.Refusals.{no_process}
use Rattle.af_base.specs.declared.limits.TheConstants.{MAX_NOFILE, MAX_PROCESSES}
use Rattle.af_base.proofs.PlainLists.{entry, looked}
use Rattle.af_collect.proofs.holdings.Holdings.listed_tables.Given as goal

abbrev pub invariant-loop-pid : goal.invariant-loop-pid
invariant-loop-pid l = record {
  so_far :
      map (entry (λ t. t.pid) process_of) l.tables.items ++ map (looked bare_process no_process l.self.world.processes) (drop l.pid-index l.pid-items)
      ≡ map (looked bare_process no_process l.self.world.processes) l.pid-items;
  rising : All IsRisingTable l.tables.items;
  few : sum_by (λ t. length t.numbers.items) l.tables.items + MAX_NOFILE * length (drop l.pid-index l.pid-items) ≤ MAX_PROCESSES * MAX_NOFILE;
}
