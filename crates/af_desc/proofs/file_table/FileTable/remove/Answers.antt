use Rattle.std.proofs.Common.{rules, ◌≡◌, sym, ◌∙◌}
use Rattle.std.specs.Prelude.{None}
use Rattle.std.specs.FinMap as map
use Rattle.af_desc.proofs.FileTableInvariant.{kept-absent, kept-removed, some-space}
use Rattle.af_desc.proofs.file_table.FileTable.remove.Goals as goal

pub invariant_of-self : goal.invariant_of-self
invariant_of-self c =
    let none : map.get c.self.inside.rows.values c.args.file.now ≡ None = search rules in
    kept-absent c.self.invariant c.args.file.now _ none c.remove.ensures.removed c.remove.ensures.room

pub add_released-requires : goal.add_released-requires
add_released-requires c = record { room = some-space c.self.invariant c.args.file.now c.in-Some.row (sym c.remove.ensures.value ∙ c.in-Some.is) }

pub invariant_of-self-2 : goal.invariant_of-self-2
invariant_of-self-2 c =
    let n = c.add_released.ensures in
    let r = c.remove.ensures in
    kept-removed c.self.invariant c.args.file.now c.in-Some.row (sym r.value ∙ c.in-Some.is) _ _ _ n.rows r.removed r.room n.changed n.released n.room n.rest
