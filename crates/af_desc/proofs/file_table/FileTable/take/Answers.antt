use Rattle.std.proofs.Common.{sym, ap, ◌∙◌}
use Rattle.std.specs.Option.{option_copied_mut}
use Rattle.af_desc.specs.Told.{is_listed}
use Rattle.af_desc.proofs.FileTableInvariant.{kept-moved, kept-queue, room-for}
use Rattle.af_desc.proofs.file_table.FileTable.take.Goals as goal

pub take-requires-clause-chain : goal.take-requires-clause-chain
take-requires-clause-chain c = c.self.invariant.chained.each c.args.file.now c.in-Some.row.now (sym c.get_mut.ensures.value ∙ ap option_copied_mut c.in-Some.is)

pub add_changed-requires : goal.add_changed-requires
add_changed-requires c = λ asked not. room-for c.self.invariant c.args.file.now c.in-Some.row.now (sym c.get_mut.ensures.value ∙ ap option_copied_mut c.in-Some.is) (sym (ap (λ r. r.dirty) c.take.ensures.rest) ∙ not)

pub invariant_of-self-in_err-take : goal.invariant_of-self-in_err-take
invariant_of-self-in_err-take c =
    let t = c.take.ensures in
    kept-moved c.self.invariant c.args.file.now c.in-Some.row.now (sym c.get_mut.ensures.value ∙ ap option_copied_mut c.in-Some.is) _ _ t.chain t.others t.rest c.in_err-take.ensures.err

pub invariant_of-self-2 : goal.invariant_of-self-2
invariant_of-self-2 c =
    let n = c.add_changed.ensures in
    let t = c.take.ensures in
    kept-queue c.self.invariant c.args.file.now c.in-Some.row.now (sym c.get_mut.ensures.value ∙ ap option_copied_mut c.in-Some.is) _ _ _ _ (sym (ap is_listed t.rest)) n.row n.dirty n.listed n.rest t.chain t.others
