use Rattle.std.proofs.Common.{◌∙◌, [], ◌∷◌, ap, subst}
use Rattle.std.specs.Prelude.{IfOk, Result, Ok, Err}
use Rattle.jaywardrobe.specs.Outcome.{Does}
use Rattle.jaywardrobe.specs.OwnedView.{OwnedView}
use Rattle.jaywardrobe.specs.Types.reply
use Rattle.jaywardrobe.specs.Types.step
use Rattle.examples.proofs.Deliveries.{carried, delivered}
use Rattle.examples.proofs.broker.delivery.deliver.Goals as goal

-- A consequence of a fact of a present value holds of it too.
if_ok : {A E : Type 0} {P Q : A → Type 0} (r : Result A E) → IfOk r P → ((x : A) → P x → Q x) → IfOk r Q
if_ok (Ok x) h f = f x h
if_ok (Err e) h f = h

-- The receiver was idle, so it got what was sent.
pub returns-in-Ok-clause-delivered : goal.returns-in-Ok-clause-delivered
returns-in-Ok-clause-delivered c =
    let from = c.args.from.now in
    let to = c.args.to.now in
    let sent = subst (λ (o : OwnedView _). Does o.machine from.pid (step.Send from.fd (46 ∷ []) (c.args.fd ∷ [])) (reply.Sent c.in-Ok.field-0) c.call.new.self.machine) c.in_ok-check_idle.ensures.same c.in-Ok.ensures.done in
    if_ok c.receive.result c.receive.ensures.taken
    (λ got took. delivered c.args.engine.now.machine c.call.new.self.machine c.receive.new.engine.machine from.pid from.fd c.args.fd to.pid to.fd got (46 ∷ []) (reply.Sent c.in-Ok.field-0) c.in_ok-check_idle.ensures.idle sent took)

-- No call on the way moves a value.
pub returns-in-Ok-clause-carried : goal.returns-in-Ok-clause-carried
returns-in-Ok-clause-carried c =
    let from = c.args.from.now in
    let to = c.args.to.now in
    let same = c.receive.ensures.values ∙ c.call.ensures.values ∙ ap (λ (o : OwnedView _). o.values) c.in_ok-check_idle.ensures.same in
    if_ok c.receive.result (returns-in-Ok-clause-delivered c)
    (λ got d. carried c.args.engine.now c.receive.new.engine from.pid c.args.fd to.pid got d same)
