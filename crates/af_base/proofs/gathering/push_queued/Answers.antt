use Rattle.std.proofs.Common.{rules, ap, sym, ◌∙◌}
use Rattle.std.specs.List.{flat_map}
use Rattle.af_base.specs.Listing.{file_of}
use Rattle.af_base.specs.Places.{attached_in, queue_of}
use Rattle.af_base.proofs.PlaceLists.{carried_listed, gathered, gathered_next}
use Rattle.af_base.proofs.gathering.push_queued.Goals as goal

pub returns : goal.returns
returns c =
    gathered (λ m. m.attached.items) c.deref-message-items.result.now c.loop-message.message-index c.args.inos.now.items c.loop-message.inos.items (attached_in (queue_of (file_of c.args.file.now))) c.loop-message-test.false c.loop-message.invariant
    (ap (flat_map (λ m. m.attached.items)) c.deref-message-items.ensures.value ∙ sym (carried_listed c.args.file.now c.in-Some.socket c.in-Some.is))

pub loop-message-preserved : goal.loop-message-preserved
loop-message-preserved c = gathered_next (λ m. m.attached.items) c.deref-message-items.result.now c.loop-message.message-index c.message-item.result c.args.inos.now.items c.loop-message.inos.items c.extend_from_slice.new.self.items c.loop-message-test.true c.message-item.is c.loop-message.invariant (search rules)
