-- The rest, from the marks now, gives the marks of all.
use Rattle.std.proofs.Common.{◌≡◌, drop, length}
use Rattle.af_collect.specs.Keeping.{shaded_all}
use Rattle.af_collect.specs.StoreView.{first_attached}
use Rattle.af_collect.proofs.shading.shade_message.Given as goal

abbrev pub invariant-loop-index : goal.invariant-loop-index
invariant-loop-index l = record {
  frame : l.holdings ≡ record l.fn.holdings { marks = l.holdings.marks };
  end : l.index-end ≡ length (first_attached l.fn.holdings.world l.fn.file);
  marks : shaded_all (drop l.index (first_attached l.fn.holdings.world l.fn.file)) l.holdings.marks ≡ shaded_all (first_attached l.fn.holdings.world l.fn.file) l.fn.holdings.marks;
}
