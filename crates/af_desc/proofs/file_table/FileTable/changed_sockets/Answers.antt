use Rattle.std.proofs.Common.{◌+◌, ap, sym, subst, ◌∙◌}
use Rattle.af_base.specs.Told.{AreChanged, AreSocketsOnce}
use Rattle.af_desc.specs.FileTableView.{files_of, FileTableView}
use Rattle.af_desc.specs.Told.{since_of}
use Rattle.af_desc.proofs.FileTableInvariant.{changed-told, once-told}
use Rattle.af_desc.proofs.file_table.FileTable.changed_sockets.Goals as goal

pub returns-clause-once : goal.returns-clause-once
returns-clause-once c =
    let a = c.self.inside in
    subst (λ (v : FileTableView). AreSocketsOnce v.files c.changed.result.now) c.self.view_is (subst (AreSocketsOnce (files_of a.nodes a.rows.values)) (sym c.changed.ensures) (once-told a.nodes a.rows.values a.told.changed c.self.invariant.are_told.listed))

pub returns-clause-changed : goal.returns-clause-changed
returns-clause-changed c = λ asked.
    let a = c.self.inside in
    let s = since_of a.told (files_of a.since_nodes.value a.since_rows.value.values) (a.since_rows.value.last + 1) in
    let all = changed-told a.nodes a.rows a.told _ _ c.self.invariant.are_told (ap (λ (v : FileTableView). v.since.changed) c.self.view_is ∙ asked) in
    subst (λ (v : FileTableView). AreChanged v.files v.since c.changed.result.now) c.self.view_is (subst (AreChanged (files_of a.nodes a.rows.values) s) (sym c.changed.ensures) all)
