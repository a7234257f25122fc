-- The first processes were started, and nothing else was done from the seat.
use Rattle.std.proofs.Common.{◌≡◌, ◌++◌}
use Rattle.scmgc.specs.Race.{spawned}
use Rattle.scmgc.proofs.race.start.start_processes.Given as goal

abbrev pub invariant-loop-before : goal.invariant-loop-before
invariant-loop-before g l = record {
  number : l.main.number ≡ l.fn.main.number;
  started : l.main.list ≡ l.fn.main.list ++ spawned l.before;
}
