use Rattle.std.proofs.Common.{◌≡◌, ◌∙◌, sym, ap}
use Rattle.std.specs.Prelude.{Some, None}
use Rattle.std.specs.FinMap as map
use Rattle.std.specs.Option.{option_copied}
use Rattle.af_desc.specs.FilesView.{socket_in}
use Rattle.af_desc.specs.FileTableView.{FileTableView}
use Rattle.af_desc.proofs.FileTableView.{socket_at, stranger_is_none}
use Rattle.af_desc.proofs.file_table.FileTable.socket.Goals as goal

pub returns-in_err-row : goal.returns-in_err-row
returns-in_err-row c =
    let a = c.self.inside in
    let at : map.get a.rows.values c.args.file.now ≡ None = sym c.get.ensures ∙ ap option_copied c.in_err-row.was in
    c.from_residual.ensures ∙ sym (stranger_is_none a.nodes a.rows.values c.args.file.now at) ∙ ap (λ (v : FileTableView). socket_in v.files c.args.file.now) c.self.view_is

pub socket-requires : goal.socket-requires
socket-requires c =
    let at : map.get c.self.inside.rows.values c.args.file.now ≡ Some c.in_ok-row.row.now = sym c.get.ensures ∙ ap option_copied c.in_ok-row.was in
    record { chain = c.self.invariant.chained.each c.args.file.now c.in_ok-row.row.now at }

pub returns : goal.returns
returns c =
    let a = c.self.inside in
    let x = c.in_ok-row.row.now in
    let at : map.get a.rows.values c.args.file.now ≡ Some x = sym c.get.ensures ∙ ap option_copied c.in_ok-row.was in
    c.socket.ensures.socket ∙ sym (socket_at a.nodes a.rows.values c.args.file.now x at) ∙ ap (λ (v : FileTableView). socket_in v.files c.args.file.now) c.self.view_is
