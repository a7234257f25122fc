use Rattle.std.proofs.Common.{rules, ◌≡◌, ◌≤◌, ◌++◌, [], length, map, ap, sym, ◌∙◌, arith}
use Rattle.std.specs.List.{sum_by}
use Rattle.std.proofs.lemmas.List.Sums.{sum_by_push}
use Rattle.af_base.specs.Bare.{bare_message}
use Rattle.af_base.specs.Listing.{message_of}
use Rattle.af_base.specs.declared.limits.TheConstants.{SCM_MAX_FD}
use Rattle.af_base.specs.declared.listing.ListedMessage.{ListedMessage}
use Rattle.af_base.proofs.GrowingLists.{made_all, made_more}
use Rattle.af_collect.proofs.listings.listed_messages.Goals as goal

pub loop-message-preserved : goal.loop-message-preserved
loop-message-preserved c =
    let xs = c.loop-message.messages.items in
    let m = c.in-Some.message.now in
    let rest = c.in-Some.rest in
    let x : ListedMessage = record { user = c.user.result; attached = c.in_ok-numbers_of.field-0 } in
    let copied : x.attached.items ≡ m.attached = search rules in
    let same : message_of x ≡ bare_message m = λ i. record { bytes = []; attached = copied i; user = c.user.ensures i } in
    let step = c.in-Some.ensures.some in
    let before = ap (λ ms. map message_of xs ++ map bare_message ms) (sym step) ∙ c.loop-message.invariant.so_far in
    let few : length x.attached.items ≤ SCM_MAX_FD = omega (arith, ap length copied, ap length c.attached.ensures.value, c.attached.ensures.bound) in
    record {
      so_far = ap (λ ms. map message_of ms ++ map bare_message rest) c.in_ok-push.ensures.items ∙ made_more message_of bare_message xs x m rest (map bare_message c.args.queue.now) same before;
      few = omega (
        arith,
        c.loop-message.invariant.few,
        few,
        ap length step,
        ap (sum_by (λ n. length n.attached.items)) c.in_ok-push.ensures.items,
        sum_by_push (λ n. length n.attached.items) xs x,
      );
    }

pub returns-clause-shown : goal.returns-clause-shown
returns-clause-shown c = made_all message_of bare_message c.loop-message.messages.items c.loop-message.left (map bare_message c.args.queue.now) c.in_default.ensures.none c.loop-message.invariant.so_far
