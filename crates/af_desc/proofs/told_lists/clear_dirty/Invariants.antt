-- The list has just the dirty files still, and rows changed in nothing else.
use Rattle.std.proofs.Common.{◌≡◌, length}
use Rattle.std.specs.Prelude.{vec_capacity}
use Rattle.af_desc.specs.Told.{cleaned, IsDirtyList}
use Rattle.af_desc.proofs.told_lists.clear_dirty.Given as goal

abbrev pub invariant-loop-file : goal.invariant-loop-file
invariant-loop-file l = record {
  listed : IsDirtyList l.rows.values l.changed.items;
  rest : cleaned l.rows.values ≡ cleaned l.fn.rows.values;
  rows : l.rows ≡ record l.fn.rows { values = l.rows.values };
  capacity : vec_capacity l.changed ≡ vec_capacity l.fn.changed;
}

abbrev pub decreases-loop-file : goal.decreases-loop-file
decreases-loop-file l = length l.changed.items
