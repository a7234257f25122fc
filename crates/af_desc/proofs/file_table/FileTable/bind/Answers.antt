use Rattle.std.proofs.Common.{◌≡◌, sym, ap, ◌∙◌}
use Rattle.std.specs.Prelude.{None}
use Rattle.std.specs.Option.{option_copied_mut}
use Rattle.af_queue.specs.Chains.{messages_of}
use Rattle.af_desc.specs.FilesView.{socket_in}
use Rattle.af_desc.specs.FileTableView.{FileTableView}
use Rattle.af_desc.proofs.FileTableView.{if_socket, socket_at}
use Rattle.af_desc.proofs.FileTableInvariant.{kept-named}
use Rattle.af_desc.proofs.file_table.FileTable.bind.Goals as goal

pub bind-requires : goal.bind-requires
bind-requires c =
    let a = c.self.inside in
    let x = c.in-Some.row.now in
    let at = sym c.get_mut.ensures.value ∙ ap option_copied_mut c.in-Some.is in
    let shown = sym (ap (λ (v : FileTableView). socket_in v.files c.args.file.now) c.self.view_is) ∙ socket_at a.nodes a.rows.values c.args.file.now x at in
    if_socket (λ s. s.name ≡ None) (messages_of a.nodes x.chain) x.kind _ shown c.requires

pub invariant_of-self-2 : goal.invariant_of-self-2
invariant_of-self-2 c = kept-named c.self.invariant c.args.file.now c.in-Some.row.now (sym c.get_mut.ensures.value ∙ ap option_copied_mut c.in-Some.is) c.bind.result c.bind.new.self c.args.name c.bind.ensures.ok c.bind.ensures.err
