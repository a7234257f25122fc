use Rattle.std.proofs.Common.{refl, sym, ap, ◌∙◌}
use Rattle.std.specs.Option.{option_copied_mut}
use Rattle.af_desc.proofs.FileTableInvariant.{kept-marked}
use Rattle.af_desc.proofs.file_table.FileTable.mark_grey.Goals as goal

pub invariant_of-self-2 : goal.invariant_of-self-2
invariant_of-self-2 c = kept-marked c.self.invariant c.args.file.now c.in-Some.row.now (sym c.get_mut.ensures.value ∙ ap option_copied_mut c.in-Some.is) _ refl refl refl
