use Rattle.std.proofs.Common.{◌≡◌, ◌&&◌, refl, sym, ap, ◌∙◌, subst, [], drop}
use Rattle.std.specs.Prelude.{Some}
use Rattle.std.specs.Option.{option_copied_mut, option_map_or}
use Rattle.af_base.specs.Changes.{file_with}
use Rattle.af_base.specs.Places.{backlog_in, backlog_of, queue_in, queue_of}
use Rattle.af_base.specs.World.{AsSocket, File, Map, Plain}
use Rattle.af_queue.specs.Chains.{messages_of}
use Rattle.af_desc.specs.FilesView.{popped}
use Rattle.af_desc.specs.FileTableView.{file_in, FileTableView}
use Rattle.af_desc.specs.Holding.{without_popped, IsPopped}
use Rattle.af_desc.proofs.FileTableView.{file_is, socket_same}
use Rattle.af_desc.proofs.FileTableInvariant.{kept-queue, kept-silent, room-for}
use Rattle.af_desc.proofs.file_table.FileTable.pop.Goals as goal

-- A file with nothing to receive stays as it is.
silent : (x : File) → queue_of x ≡ [] → file_with popped x ≡ x
silent Plain e = refl
silent (AsSocket s) e = ap (λ xs. AsSocket (record s { queue = drop 1 xs })) e ∙ sym (ap (λ xs. AsSocket (record s { queue = xs })) e)

pub pop-requires : goal.pop-requires
pop-requires c = record { empty = c.requires; chain = c.self.invariant.chained.each c.args.file.now c.in_ok-row.row.now (sym c.get_mut.ensures.value ∙ ap option_copied_mut c.in_ok-row.was) }

pub add_changed-requires : goal.add_changed-requires
add_changed-requires c = λ asked not. room-for c.self.invariant c.args.file.now c.in_ok-row.row.now (sym c.get_mut.ensures.value ∙ ap option_copied_mut c.in_ok-row.was) (sym (ap (λ r. r.dirty) c.pop.ensures.rest) ∙ not)

pub invariant_of-self-2 : goal.invariant_of-self-2
invariant_of-self-2 c =
    let n = c.add_changed.ensures in
    let p = c.pop.ensures in
    let x = c.in_ok-row.row.now in
    let socket = socket_same (without_popped c.pop.result) (messages_of c.self.inside.nodes x.chain) (messages_of c.pop.new.nodes c.pop.new.self.chain) x.kind c.pop.new.self.kind p.file in
    kept-queue c.self.invariant c.args.file.now c.in_ok-row.row.now (sym c.get_mut.ensures.value ∙ ap option_copied_mut c.in_ok-row.was) _ _ _ _ (sym (λ i. ap (λ r. r.dirty) p.rest i && socket i)) n.row n.dirty n.listed n.rest p.chain p.others

pub invariant_of-self-in_err-popped : goal.invariant_of-self-in_err-popped
invariant_of-self-in_err-popped c =
    let p = c.pop.ensures in
    let a = c.self.inside in
    let x = c.in_ok-row.row.now in
    let at = sym c.get_mut.ensures.value ∙ ap option_copied_mut c.in_ok-row.was in
    let none = subst (λ o. IsPopped o c.pop.new.attached.items (queue_of (file_in a.nodes x)) (backlog_of (file_in a.nodes x))) c.in_err-popped.was p.popped in
    let file = p.file ∙ ap (λ o. file_with (without_popped o) (file_in a.nodes x)) c.in_err-popped.was ∙ silent (file_in a.nodes x) none.0 in
    let socket = socket_same (without_popped c.pop.result) (messages_of a.nodes x.chain) (messages_of c.pop.new.nodes c.pop.new.self.chain) x.kind c.pop.new.self.kind p.file in
    kept-silent c.self.invariant c.args.file.now x at _ _ p.chain p.others (ap (λ r. r.dirty) p.rest) socket file

pub returns-clause-popped : goal.returns-clause-popped
returns-clause-popped c =
    let a = c.self.inside in
    let f = c.args.file.now in
    let x = c.in_ok-row.row.now in
    let given = Some c.in_ok-popped.popped in
    let at = sym c.get_mut.ensures.value ∙ ap option_copied_mut c.in_ok-row.was in
    let shown = subst (λ o. IsPopped o c.pop.new.attached.items (queue_of (file_in a.nodes x)) (backlog_of (file_in a.nodes x))) c.in_ok-popped.was c.pop.ensures.popped in
    subst (λ (fs : Map File). IsPopped given c.pop.new.attached.items (queue_in fs f) (backlog_in fs f)) (ap (λ (v : FileTableView). v.files) c.self.view_is)
    (subst (λ o. IsPopped given c.pop.new.attached.items (option_map_or queue_of o []) (option_map_or backlog_of o [])) (sym (file_is a.rows.values f x at a.nodes)) shown)
