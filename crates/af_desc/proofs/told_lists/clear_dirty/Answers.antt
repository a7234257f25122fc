use Rattle.std.proofs.Common.{rules, ◌≡◌, ◌++◌, ◌∷◌, [], false, ap, refl, sym, ◌∙◌}
use Rattle.std.specs.Option.{option_copied_mut}
use Rattle.std.specs.FinMap as map
use Rattle.ordered_slab.specs.OrderedSlabView.{OrderedSlabView}
use Rattle.ordered_slab.proofs.Parts.{part_kept}
use Rattle.af_desc.specs.declared.file_row.FileRow.{FileRow}
use Rattle.af_desc.proofs.ToldLists.{last-struck}
use Rattle.af_desc.proofs.told_lists.clear_dirty.Goals as goal

pub loop-file-preserved : goal.loop-file-preserved
loop-file-preserved c =
    let l = c.loop-file.rows in
    let f = c.in-Some.file in
    let i = c.loop-file.invariant in
    let items : c.loop-file.changed.items ≡ c.pop.new.self.items ++ f ∷ [] = search rules in
    let at = sym c.get_mut.ensures.value ∙ ap option_copied_mut c.unwrap-row.ensures in
    record {
      listed = last-struck l.values c.loop-file.changed.items c.pop.new.self.items f i.listed items _ c.clean-row.ensures;
      rest = part_kept (λ (r : FileRow). record r { dirty = false }) l.values f c.unwrap-row.result.now _ at refl ∙ i.rest;
      rows = ap (λ (r : OrderedSlabView FileRow). record r { values = map.insert l.values f (record c.unwrap-row.result.now { dirty = c.clean-row.result }) }) i.rows;
      capacity = c.pop.ensures.capacity ∙ i.capacity;
    }
