use Rattle.std.proofs.Common.{◌≡◌, ◌∷◌, [], true, drop, sym, ap, ◌∙◌}
use Rattle.std.specs.Prelude.{if◌then◌else◌, is_some}
use Rattle.af_queue.specs.Chains.{messages_of}
use Rattle.af_desc.specs.FilesView.{popped}
use Rattle.af_desc.specs.FileTableView.{refilled}
use Rattle.af_desc.proofs.FileTableView.{queue_changed, queue_of_kind}
use Rattle.af_desc.proofs.file_row.FileRow.pop_message.Goals as goal

pub returns-clause-some : goal.returns-clause-some
returns-clause-some c =
    let old = messages_of c.args.nodes.now c.args.self.now.chain in
    let socket : is_some c.args.self.now.kind ≡ true = sym c.is_socket.ensures ∙ c.if-not-is_socket.false in
    let queue = queue_of_kind old c.args.self.now.kind ∙ ap (λ b. if b then old else []) socket in
    let m = c.in_ok-message.message in
    let swapped = c.swap_attached.ensures in
    let left = c.in_ok-message.ensures.rest ∙ ap (drop 1) (sym queue) in
    (m.bytes, queue ∙ c.in_ok-message.ensures.some ∙ (λ i. record { bytes = m.bytes; attached = sym swapped.files i; user = sym (c.user.ensures ∙ ap (λ x. x.user) swapped.rest) i } ∷ left i))

pub returns-clause-file : goal.returns-clause-file
returns-clause-file c =
    let old = messages_of c.args.nodes.now c.args.self.now.chain in
    let new = messages_of c.pop.new.nodes c.pop.new.chain in
    queue_changed popped old new c.args.self.now.kind (λ e is. ap (λ q. refilled q e) c.in_ok-message.ensures.rest)
