use Rattle.std.proofs.Common.{◌≡◌, ◌++◌, sym, subst, ◌∙◌}
use Rattle.std.specs.List.{flat_map}
use Rattle.std.proofs.lemmas.Result.{on_ok_weaker}
use Rattle.af_base.specs.Listing.{file_of}
use Rattle.af_base.specs.Places.{contents}
use Rattle.af_plain.specs.Marking.{Marks}
use Rattle.af_plain.proofs.SearchInvariant.{marks-both, marks-end, marks-more}
use Rattle.af_base.proofs.PlaceLists.{contents_listed}
use Rattle.af_plain.proofs.reach.Marking.mark_held.Goals as goal

pub loop-message-preserved : goal.loop-message-preserved
loop-message-preserved c =
    marks-more (λ m. m.attached.items) c.deref-message-items.result.now c.loop-message.message-index c.args.self.now c.loop-message.self c.mark_all.new.self c.message-item.result c.loop-message-test.true c.message-item.is c.loop-message.invariant
    (subst (Marks c.loop-message.self c.mark_all.new.self) c.as_slice.ensures.value c.in_ok-mark_all.ensures)

pub returns : goal.returns
returns c =
    let messages = c.deref-message-items.result.now in
    let queue = marks-end (λ m. m.attached.items) messages c.loop-message.message-index c.args.self.now c.loop-message.self c.loop-message-test.false c.loop-message.invariant in
    let whole : flat_map (λ m. m.attached.items) messages ++ c.as_slice-2.result.now ≡ contents (file_of c.args.file.now) =
    (λ i. flat_map (λ m. m.attached.items) (c.deref-message-items.ensures.value i) ++ c.as_slice-2.ensures.value i) ∙ sym (contents_listed c.args.file.now c.in-Some.socket c.in-Some.is) in
    on_ok_weaker c.mark_all-2.result (λ rest. subst (Marks c.args.self.now c.mark_all-2.new.self) whole (marks-both c.args.self.now c.loop-message.self c.mark_all-2.new.self (flat_map (λ m. m.attached.items) messages) c.as_slice-2.result.now queue rest)) c.mark_all-2.ensures
