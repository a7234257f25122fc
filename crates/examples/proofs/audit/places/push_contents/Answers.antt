use Rattle.std.proofs.Common.{rules, ◌≡◌, ◌++◌, ◌∙◌, ap, append_assoc, subst, sym}
use Rattle.std.specs.Prelude.{OnOk}
use Rattle.std.specs.List.{flat_map}
use Rattle.jaywardrobe.proofs.PlaceLists.{contents_listed, gathered}
use Rattle.examples.specs.Places.{referred_files}
use Rattle.examples.proofs.audit.places.push_contents.Goals as goal

-- The files of its messages were put in, and then its backlog.
pub returns : goal.returns
returns c =
    let before = referred_files c.args.places.now.items in
    let messages = c.in-Some.socket.queue.items in
    let carried = gathered (λ m. m.attached.items) c.deref-message-items.result.now c.loop-message.message-index before (referred_files c.loop-message.places.items) (flat_map (λ m. m.attached.items) messages) c.loop-message-test.false c.loop-message.invariant (ap (flat_map (λ m. m.attached.items)) c.deref-message-items.ensures.value) in
    let backlog : c.as_slice-2.result.now ≡ c.in-Some.socket.backlog.items = search rules in
    let all = (λ i. carried i ++ backlog i) ∙ append_assoc before (flat_map (λ m. m.attached.items) messages) c.in-Some.socket.backlog.items ∙ ap (λ xs. before ++ xs) (sym (contents_listed c.args.file.now c.in-Some.socket c.in-Some.is)) in
    subst (λ xs. OnOk c.push_all-2.result (referred_files c.push_all-2.new.places.items ≡ xs)) all c.push_all-2.ensures
