use Rattle.std.proofs.Common.{◌≡◌, ◌++◌, length}
use Rattle.af_base.specs.Table.{free_numbers}
use Rattle.af_table.specs.Free.{free_from}
use Rattle.af_table.proofs.process.Process.lowest_free.Given as goal

-- The numbers found and those left are all that are free.
abbrev pub invariant-loop : goal.invariant-loop
invariant-loop l = record {
  all : l.fds.items ++ free_from l.from l.self.process ≡ free_numbers l.self.process;
  many : length l.fds.items ≡ l.counter;
}
