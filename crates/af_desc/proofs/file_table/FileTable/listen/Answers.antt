use Rattle.std.proofs.Common.{◌≡◌, [], false, refl, sym, ap, ◌∙◌}
use Rattle.std.specs.Prelude.{is_none}
use Rattle.std.specs.Option.{option_copied_mut}
use Rattle.af_queue.specs.Chains.{messages_of}
use Rattle.af_desc.specs.FilesView.{socket_in}
use Rattle.af_desc.specs.FileTableView.{FileTableView}
use Rattle.af_desc.proofs.FileTableView.{if_socket, socket_at}
use Rattle.af_desc.proofs.FileTableInvariant.{kept-kind, kept-marked, room-for}
use Rattle.af_desc.proofs.file_table.FileTable.listen.Goals as goal

pub listen-requires-clause-named : goal.listen-requires-clause-named
listen-requires-clause-named c =
    let a = c.self.inside in
    let x = c.in-Some.row.now in
    let at = sym c.get_mut.ensures.value ∙ ap option_copied_mut c.in-Some.is in
    let shown = sym (ap (λ (v : FileTableView). socket_in v.files c.args.file.now) c.self.view_is) ∙ socket_at a.nodes a.rows.values c.args.file.now x at in
    if_socket (λ s. is_none s.name ≡ false) (messages_of a.nodes x.chain) x.kind _ shown c.requires.named

pub listen-requires-clause-nobody : goal.listen-requires-clause-nobody
listen-requires-clause-nobody c =
    let a = c.self.inside in
    let x = c.in-Some.row.now in
    let at = sym c.get_mut.ensures.value ∙ ap option_copied_mut c.in-Some.is in
    let shown = sym (ap (λ (v : FileTableView). socket_in v.files c.args.file.now) c.self.view_is) ∙ socket_at a.nodes a.rows.values c.args.file.now x at in
    if_socket (λ s. s.backlog ≡ []) (messages_of a.nodes x.chain) x.kind _ shown c.requires.nobody

pub add_changed-requires : goal.add_changed-requires
add_changed-requires c = λ asked. room-for c.self.invariant c.args.file.now c.in-Some.row.now (sym c.get_mut.ensures.value ∙ ap option_copied_mut c.in-Some.is)

pub invariant_of-self-2 : goal.invariant_of-self-2
invariant_of-self-2 c =
    let n = c.add_changed.ensures in
    kept-kind c.self.invariant c.args.file.now c.in-Some.row.now (sym c.get_mut.ensures.value ∙ ap option_copied_mut c.in-Some.is) _ _ _ _ refl refl c.in_ok-listen.ensures.ok n.row n.dirty n.listed n.rest

pub invariant_of-self-in_err-listen : goal.invariant_of-self-in_err-listen
invariant_of-self-in_err-listen c = kept-marked c.self.invariant c.args.file.now c.in-Some.row.now (sym c.get_mut.ensures.value ∙ ap option_copied_mut c.in-Some.is) _ c.in_err-listen.ensures.err refl refl
