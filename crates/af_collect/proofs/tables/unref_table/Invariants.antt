use Rattle.std.proofs.Common.{◌≡◌, ◌≤◌, ◌-◌, ℕ, length}
use Rattle.std.specs.Prelude.{Some}
use Rattle.std.specs.FinMap as map
use Rattle.af_base.specs.World.{World}
use Rattle.af_base.specs.declared.limits.TheConstants.{MAX_NOFILE}
use Rattle.af_ledger.specs.Tally.{LedgerView, kept_of}
use Rattle.af_collect.specs.Agreement.{IsExact}
use Rattle.af_collect.proofs.ProcessTables.{Leaving}
use Rattle.af_collect.proofs.tables.unref_table.Given as goal

-- The last numbers of the front were given up.
abbrev pub invariant-loop-number : goal.invariant-loop-number
invariant-loop-number l = record {
  leaving : (w : World) (c : LedgerView) (pid : ℕ) → map.get w.processes pid ≡ Some l.process.process → IsExact w (kept_of l.fn.files.counts c) → Leaving w pid l.process.process l.number (length l.front) (kept_of l.files.counts c);
  rest : l.files ≡ record l.fn.files { counts = l.files.counts };
}

abbrev pub invariant-loop-fd : goal.invariant-loop-fd
invariant-loop-fd l = record {
  leaving : (w : World) (c : LedgerView) (pid : ℕ) → map.get w.processes pid ≡ Some l.process.process → IsExact w (kept_of l.fn.files.counts c) → Leaving w pid l.process.process 0 l.from (kept_of l.files.counts c);
  rest : l.files ≡ record l.fn.files { counts = l.files.counts };
  low : l.from ≤ MAX_NOFILE;
}

abbrev pub decreases-loop-fd : goal.decreases-loop-fd
decreases-loop-fd l = MAX_NOFILE - l.from
