use Rattle.std.proofs.Common.{refl, sym, ap, ◌∙◌}
use Rattle.std.specs.Option.{option_copied_mut}
use Rattle.af_desc.proofs.FileTableInvariant.{kept-marked}
use Rattle.af_desc.proofs.file_table.FileTable.mark_black.Goals as goal

pub contents-requires : goal.contents-requires
contents-requires c = record { chain = c.self.invariant.chained.each c.args.file.now c.unwrap-row.result.now (sym c.get_mut.ensures.value ∙ ap option_copied_mut c.unwrap-row.ensures) }

pub invariant_of-self : goal.invariant_of-self
invariant_of-self c = kept-marked c.self.invariant c.args.file.now c.unwrap-row.result.now (sym c.get_mut.ensures.value ∙ ap option_copied_mut c.unwrap-row.ensures) _ refl refl refl
