use Rattle.std.proofs.Common.{refl, sym, ap, ◌∙◌}
use Rattle.std.specs.Option.{option_copied_mut}
use Rattle.af_desc.proofs.FileTableInvariant.{kept-kind, room-for}
use Rattle.af_desc.proofs.file_table.FileTable.pair_with.Goals as goal

pub add_changed-requires : goal.add_changed-requires
add_changed-requires c =
    λ asked. room-for c.self.invariant c.args.file.now c.in-Some.row.now
    (sym c.get_mut.ensures.value ∙ ap option_copied_mut c.in-Some.is)

pub invariant_of-self-2 : goal.invariant_of-self-2
invariant_of-self-2 c =
    let n = c.add_changed.ensures in
    kept-kind c.self.invariant c.args.file.now c.in-Some.row.now (sym c.get_mut.ensures.value
    ∙ ap option_copied_mut c.in-Some.is) _ _ _ _ refl refl c.pair_with.ensures n.row n.dirty
    n.listed n.rest
