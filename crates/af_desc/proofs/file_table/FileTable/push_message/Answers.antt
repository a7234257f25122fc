use Rattle.std.proofs.Common.{sym, ap, ◌∙◌}
use Rattle.std.specs.Option.{option_copied_mut}
use Rattle.af_desc.specs.Told.{is_listed}
use Rattle.af_desc.proofs.FileTableInvariant.{kept-queue, room-for}
use Rattle.af_desc.proofs.file_table.FileTable.push_message.Goals as goal

pub push-requires-clause-chain : goal.push-requires-clause-chain
push-requires-clause-chain c = c.self.invariant.chained.each c.args.file.now c.unwrap-row.result.now (sym c.get_mut.ensures.value ∙ ap option_copied_mut c.unwrap-row.ensures)

pub add_changed-requires : goal.add_changed-requires
add_changed-requires c = λ asked not. room-for c.self.invariant c.args.file.now c.unwrap-row.result.now (sym c.get_mut.ensures.value ∙ ap option_copied_mut c.unwrap-row.ensures) (sym (ap (λ r. r.dirty) c.push.ensures.rest) ∙ not)

pub invariant_of-self : goal.invariant_of-self
invariant_of-self c =
    let n = c.add_changed.ensures in
    let p = c.push.ensures in
    let at = sym c.get_mut.ensures.value ∙ ap option_copied_mut c.unwrap-row.ensures in
    kept-queue c.self.invariant c.args.file.now c.unwrap-row.result.now at _ _ _ _ (sym (ap is_listed p.rest)) n.row n.dirty n.listed n.rest p.chain p.others
