use Rattle.std.proofs.Common.{ap, arith}
use Rattle.af_desc.specs.Told.{ToldListsView}
use Rattle.af_desc.proofs.FileTableInvariant.{kept-cleared}
use Rattle.af_desc.proofs.file_table.FileTable.tell.Goals as goal

pub invariant_of-self-2 : goal.invariant_of-self-2
invariant_of-self-2 c =
    let n = c.clear.ensures in
    kept-cleared c.self.invariant n.rest n.rows n.listed (ap (λ (v : ToldListsView). v.released) n.empty) (omega arith) (omega (arith, c.tell.ensures.room, c.len.ensures, ap (λ (v : ToldListsView). v.space) n.empty)) c.of-2.ensures c.of.ensures
