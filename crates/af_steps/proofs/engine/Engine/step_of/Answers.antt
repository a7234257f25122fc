use Rattle.std.proofs.Common.{◌≡◌, sym, ◌∙◌, subst}
use Rattle.af_base.specs.declared.events.Event.TheVariants as event
use Rattle.af_base.specs.declared.events.Step.TheVariants as step
use Rattle.af_base.specs.Run.{Step}
use Rattle.af_steps.specs.Rooms.{Succeeds}
use Rattle.af_steps.proofs.engine.Engine.step_of.Goals as goal

pub returns-in-Connect-clause-answers : goal.returns-in-Connect-clause-answers
returns-in-Connect-clause-answers c =
    let is = c.in-Connect.is
    ∙ (λ i. step.Connect c.in-Connect.on (sym c.as_slice-in-Connect.ensures i)) in
    let did = c.reply_to-in-Connect in
    subst (λ s. Step c.args.self.now (event.Proc c.args.pid s) did.result did.new.self) (sym is)
    did.ensures.does

pub returns-in-Recv-clause-succeeds : goal.returns-in-Recv-clause-succeeds
returns-in-Recv-clause-succeeds c =
    let did = c.reply_to-in-Recv in
    subst (λ s. Succeeds c.args.self.now.world c.args.pid s did.result) (sym c.in-Recv.is)
    did.ensures.succeeds

pub returns-in-Send-clause-answers : goal.returns-in-Send-clause-answers
returns-in-Send-clause-answers c =
    let sent = c.in-Send in
    let is = sent.is ∙ (λ i. step.Send sent.on (sym c.as_slice-in-Send.ensures i)
    (sym c.as_slice-in-Send-2.ensures i)) in
    let did = c.reply_to-in-Send in
    subst (λ s. Step c.args.self.now (event.Proc c.args.pid s) did.result did.new.self) (sym is)
    did.ensures.does
