use Rattle.std.proofs.Common.{◌+◌, ap}
use Rattle.ordered_slab.specs.OrderedSlabView.{OrderedSlabView}
use Rattle.af_desc.specs.declared.file_row.FileRow.{FileRow}
use Rattle.af_desc.specs.Told.{ToldListsView}
use Rattle.af_desc.proofs.FileTableInvariant.{kept-none}
use Rattle.af_desc.proofs.file_table.FileTable.new.Goals as goal

pub invariant_of-result : goal.invariant_of-result
invariant_of-result c =
    let l = c.new.ensures in
    kept-none _ _ _ _ _ c.new-rows.ensures.values (ap (λ (v : ToldListsView). v.changed) l) (ap (λ (v : ToldListsView). v.tells_changed) l) (ap (λ (v : ToldListsView). v.tells_released) l)
    (ap (λ (r : OrderedSlabView FileRow). r.last + 1) c.of.ensures)
