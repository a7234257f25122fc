use Rattle.std.proofs.Common.{◌≡◌, ◌≤◌, ◌-◌, length}
use Rattle.af_base.specs.World.{World}
use Rattle.af_base.specs.declared.limits.TheConstants.{MAX_NOFILE}
use Rattle.af_ledger.specs.Tally.{LedgerView, kept_of}
use Rattle.af_collect.specs.Agreement.{Joins}
use Rattle.af_collect.proofs.ProcessTables.{Joining}
use Rattle.af_collect.proofs.tables.ref_table.Given as goal

-- The last numbers of the front have joined.
abbrev pub invariant-loop-number : goal.invariant-loop-number
invariant-loop-number l = record {
  joining : (w : World) (c : LedgerView) → Joins w l.process.process (kept_of l.fn.files.counts c) → Joining w l.process.process l.number (length l.front) (kept_of l.files.counts c);
  rest : l.files ≡ record l.fn.files { counts = l.files.counts };
}

abbrev pub invariant-loop-fd : goal.invariant-loop-fd
invariant-loop-fd l = record {
  joining : (w : World) (c : LedgerView) → Joins w l.process.process (kept_of l.fn.files.counts c) → Joining w l.process.process 0 l.from (kept_of l.files.counts c);
  rest : l.files ≡ record l.fn.files { counts = l.files.counts };
  low : l.from ≤ MAX_NOFILE;
}

abbrev pub decreases-loop-fd : goal.decreases-loop-fd
decreases-loop-fd l = MAX_NOFILE - l.from
