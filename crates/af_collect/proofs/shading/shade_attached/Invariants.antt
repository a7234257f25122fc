-- The rest, from the marks now, gives the marks of all.
use Rattle.std.proofs.Common.{◌≡◌, ◌≤◌, ◌-◌, drop, length}
use Rattle.af_base.specs.Places.{attached_in, queue_at}
use Rattle.af_collect.specs.Keeping.{shaded_all}
use Rattle.af_collect.proofs.shading.shade_attached.Given as goal

abbrev pub invariant-loop-holdings : goal.invariant-loop-holdings
invariant-loop-holdings l = record {
  frame : l.holdings ≡ record l.fn.holdings { marks = l.holdings.marks };
  within : l.from ≤ length (attached_in (queue_at l.fn.holdings.world l.fn.file));
  marks : shaded_all (drop l.from (attached_in (queue_at l.fn.holdings.world l.fn.file))) l.holdings.marks ≡ shaded_all (attached_in (queue_at l.fn.holdings.world l.fn.file)) l.fn.holdings.marks;
}

abbrev pub decreases-loop-holdings : goal.decreases-loop-holdings
decreases-loop-holdings l = length (attached_in (queue_at l.fn.holdings.world l.fn.file)) - l.from
