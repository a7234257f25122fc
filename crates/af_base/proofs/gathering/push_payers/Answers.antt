use Rattle.std.proofs.Common.{rules, ap, sym, ◌∙◌}
use Rattle.std.specs.List.{flat_map}
use Rattle.af_base.specs.Listing.{file_of, message_of, payers_of}
use Rattle.af_base.specs.Places.{queue_of}
use Rattle.af_base.proofs.PlaceLists.{gathered, gathered_next, payers_listed}
use Rattle.af_base.proofs.gathering.push_payers.Goals as goal

pub returns : goal.returns
returns c =
    gathered (λ m. payers_of (message_of m)) c.deref-message-items.result.now c.loop-message.message-index c.args.payers.now.items c.loop-message.payers.items (flat_map payers_of (queue_of (file_of c.args.file.now))) c.loop-message-test.false c.loop-message.invariant
    (ap (flat_map (λ m. payers_of (message_of m))) c.deref-message-items.ensures.value ∙ sym (payers_listed c.args.file.now c.in-Some.socket c.in-Some.is))

pub loop-message-preserved : goal.loop-message-preserved
loop-message-preserved c = gathered_next (λ m. payers_of (message_of m)) c.deref-message-items.result.now c.loop-message.message-index c.message-item.result c.args.payers.now.items c.loop-message.payers.items c.push_payer.new.payers.items c.loop-message-test.true c.message-item.is c.loop-message.invariant (search rules)
