use Rattle.std.proofs.Common.{ap, arith}
use Rattle.af_desc.specs.Told.{ToldListsView}
use Rattle.af_desc.proofs.FileTableInvariant.{kept-cleared}
use Rattle.af_desc.proofs.file_table.FileTable.clear_told.Goals as goal

pub clear-requires : goal.clear-requires
clear-requires c = record { listed = c.self.invariant.are_told.listed }

pub invariant_of-self : goal.invariant_of-self
invariant_of-self c =
    let n = c.clear.ensures in
    let all = c.self.invariant.list_room in
    kept-cleared c.self.invariant n.rest n.rows n.listed (ap (λ (v : ToldListsView). v.released) n.empty) (omega arith) (omega (arith, all, ap (λ (v : ToldListsView). v.space) n.empty)) c.of-2.ensures c.of.ensures
