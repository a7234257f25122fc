use Rattle.std.proofs.Common.{refl, sym, ap, ◌∙◌}
use Rattle.std.specs.Option.{option_copied_mut}
use Rattle.af_desc.proofs.FileTableInvariant.{kept-marked}
use Rattle.af_desc.proofs.file_table.FileTable.set_mark.Goals as goal

pub invariant_of-self : goal.invariant_of-self
invariant_of-self c = kept-marked c.self.invariant c.args.file.now c.unwrap-row.result.now (sym c.get_mut.ensures.value ∙ ap option_copied_mut c.unwrap-row.ensures) _ refl refl refl
