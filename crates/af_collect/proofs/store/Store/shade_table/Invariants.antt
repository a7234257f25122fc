-- The files of the descriptors below the next one are marked, if they are of the begin, and the
-- invariant of the pass holds.
use Rattle.std.proofs.Common.{◌≡◌, ◌<◌, ◌≤◌, ◌-◌, ℕ, true}
use Rattle.std.specs.Prelude.{Some}
use Rattle.af_base.specs.World.{IsLive}
use Rattle.af_base.specs.declared.limits.TheConstants.{MAX_NOFILE}
use Rattle.af_base.specs.Places.{table_at}
use Rattle.af_mark.specs.MarksView.{is_marked}
use Rattle.af_collect.specs.StoreView.{KeepsPass}
use Rattle.af_collect.proofs.StoreInvariant.{shown}
use Rattle.af_collect.proofs.store.Store.shade_table.Given as goal

abbrev pub invariant-loop-fd : goal.invariant-loop-fd
invariant-loop-fd l = record {
  kept : KeepsPass (shown l.self-inside l.self-inside.holdings);
  frame : shown l.self-inside l.self-inside.holdings ≡ record l.fn.self { marks = l.self-inside.holdings.marks };
  marked : (n f : ℕ) → n < l.next → table_at l.fn.self.world l.fn.pid n ≡ Some f → IsLive l.fn.self.begun f → is_marked l.self-inside.holdings.marks f ≡ true;
  low : l.next ≤ MAX_NOFILE;
}

abbrev pub decreases-loop-fd : goal.decreases-loop-fd
decreases-loop-fd l = MAX_NOFILE - l.next
