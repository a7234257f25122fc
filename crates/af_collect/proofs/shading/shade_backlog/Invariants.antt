-- The rest, from the marks now, gives the marks of all.
use Rattle.std.proofs.Common.{◌≡◌, drop, length}
use Rattle.af_base.specs.Places.{backlog_at}
use Rattle.af_collect.specs.Keeping.{shaded_all}
use Rattle.af_collect.proofs.shading.shade_backlog.Given as goal

abbrev pub invariant-loop-at : goal.invariant-loop-at
invariant-loop-at l = record {
  frame : l.holdings ≡ record l.fn.holdings { marks = l.holdings.marks };
  end : l.at-end ≡ length (backlog_at l.fn.holdings.world l.fn.file);
  marks : shaded_all (drop l.at (backlog_at l.fn.holdings.world l.fn.file)) l.holdings.marks ≡ shaded_all (backlog_at l.fn.holdings.world l.fn.file) l.fn.holdings.marks;
}
