use Rattle.std.proofs.Common.{Ok, Err, OnOk, Result, sym, ap, ◌∙◌}
use Rattle.std.specs.Prelude.{option_map}
use Rattle.af_base.specs.Take.{take_from}
use Rattle.af_base.specs.World.{Socket}
use Rattle.af_base.proofs.Lookups.{some_same}
use Rattle.af_queue.specs.Chains.{messages_of}
use Rattle.af_desc.specs.FilesView.{received_from}
use Rattle.af_desc.specs.FileTableView.{refilled}
use Rattle.af_desc.proofs.FileTableView.{queue_changed}
use Rattle.af_desc.proofs.file_row.FileRow.take.Goals as goal

-- A consequence of a call's effect holds where the call succeeded.
on_ok : {T E P Q : Type 0} (r : Result T E) → (P → Q) → OnOk r P → OnOk r Q
on_ok (Ok x) f h = f h
on_ok (Err e) f h = tt

pub returns-clause-file : goal.returns-clause-file
returns-clause-file c =
    let old = messages_of c.args.nodes.now c.args.self.now.chain in
    let new = messages_of c.take.new.nodes c.take.new.chain in
    let kind = c.args.self.now.kind in
    let shown = sym c.socket.ensures.socket ∙ c.in-Some.is in
    on_ok c.take.result
    (λ rest. queue_changed (received_from c.args.max) old new kind (λ e is.
    let same = some_same (refilled old e) c.in-Some.socket (ap (option_map (refilled old)) (sym is) ∙ shown) in
    let kind = c.kind-kind.ensures ∙ sym (ap (λ (s : Socket). s.kind) same) in
    ap (λ q. refilled q e) (rest ∙ ap (λ k. (take_from k old c.args.max).rest) kind)))
    c.take.ensures.rest
