use Rattle.std.proofs.Common.{◌+◌, ap, sym, subst, ◌∙◌}
use Rattle.af_base.specs.Told.{AreReleased}
use Rattle.af_desc.specs.FileTableView.{files_of, FileTableView}
use Rattle.af_desc.specs.Told.{since_of}
use Rattle.af_desc.proofs.FileTableInvariant.{released-told}
use Rattle.af_desc.proofs.file_table.FileTable.released_files.Goals as goal

pub returns : goal.returns
returns c = λ asked.
    let a = c.self.inside in
    let s = since_of a.told (files_of a.since_nodes.value a.since_rows.value.values) (a.since_rows.value.last + 1) in
    let all = released-told a.nodes a.rows a.told _ _ c.self.invariant.are_told (ap (λ (v : FileTableView). v.since.released) c.self.view_is ∙ asked) in
    subst (λ (v : FileTableView). AreReleased v.files (v.last + 1) v.since c.released.result.now) c.self.view_is (subst (AreReleased (files_of a.nodes a.rows.values) (a.rows.last + 1) s) (sym c.released.ensures) all)
