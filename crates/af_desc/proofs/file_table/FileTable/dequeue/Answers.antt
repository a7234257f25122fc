use Rattle.std.proofs.Common.{◌≡◌, [], ◌∷◌, ℕ, List, drop, refl, sym, ap, ◌∙◌, subst}
use Rattle.std.specs.Prelude.{IfSome, IfNone, is_some}
use Rattle.std.specs.Option.{option_copied_mut, option_map_or}
use Rattle.af_base.specs.Changes.{dequeued}
use Rattle.af_base.specs.Places.{backlog_in, backlog_of}
use Rattle.af_queue.specs.Chains.{messages_of}
use Rattle.af_desc.specs.FileTableView.{FileTableView}
use Rattle.af_desc.specs.Form.{embryos_of}
use Rattle.af_desc.proofs.FileTableView.{backlog_of_kind, file_is, socket_kept}
use Rattle.af_desc.proofs.FileTableInvariant.{listed-kind, room-for}
use Rattle.af_desc.proofs.file_table.FileTable.dequeue.Goals as goal

pub returns-clause-some : goal.returns-clause-some
returns-clause-some c =
    let a = c.self.inside in
    let x = c.in_ok-row.row.now in
    let at = sym c.get_mut.ensures.value ∙ ap option_copied_mut c.in_ok-row.was in
    let shown = sym (ap (λ (v : FileTableView). backlog_in v.files c.args.file.now) c.self.view_is) ∙ ap (λ o. option_map_or backlog_of o []) (file_is a.rows.values c.args.file.now x at a.nodes) ∙ backlog_of_kind (messages_of a.nodes x.chain) x.kind ∙ ap (λ r. embryos_of r.kind) (sym c.add_changed.ensures.row) in
    subst (λ (b : List ℕ). IfSome c.dequeue.result (λ f. b ≡ f ∷ drop 1 b)) (sym shown) c.dequeue.ensures.some

pub returns-clause-none : goal.returns-clause-none
returns-clause-none c =
    let a = c.self.inside in
    let x = c.in_ok-row.row.now in
    let at = sym c.get_mut.ensures.value ∙ ap option_copied_mut c.in_ok-row.was in
    let shown = sym (ap (λ (v : FileTableView). backlog_in v.files c.args.file.now) c.self.view_is) ∙ ap (λ o. option_map_or backlog_of o []) (file_is a.rows.values c.args.file.now x at a.nodes) ∙ backlog_of_kind (messages_of a.nodes x.chain) x.kind ∙ ap (λ r. embryos_of r.kind) (sym c.add_changed.ensures.row) in
    subst (λ (b : List ℕ). IfNone c.dequeue.result (b ≡ [])) (sym shown) c.dequeue.ensures.none

pub add_changed-requires : goal.add_changed-requires
add_changed-requires c = λ asked. room-for c.self.invariant c.args.file.now c.in_ok-row.row.now (sym c.get_mut.ensures.value ∙ ap option_copied_mut c.in_ok-row.was)

pub invariant_of-self-2 : goal.invariant_of-self-2
invariant_of-self-2 c =
    let n = c.add_changed.ensures in
    let at = sym c.get_mut.ensures.value ∙ ap option_copied_mut c.in_ok-row.was in
    let socket = ap is_some c.dequeue.ensures.rest ∙ socket_kept dequeued _ ∙ ap (λ r. is_some r.kind) n.row in
    listed-kind c.self.invariant c.args.file.now c.in_ok-row.row.now at _ _ _ n.row n.dirty n.listed n.rest refl socket refl
