use Rattle.std.proofs.Common.{sym, subst}
use Rattle.std.specs.Prelude.{IfOk}
use Rattle.af_base.specs.declared.events.Reply.TheVariants as reply
use Rattle.af_base.specs.declared.events.Step.TheVariants as step
use Rattle.af_steps.specs.Outcome.{Does}
use Rattle.af_steps.proofs.Sends.{sent-done}
use Rattle.af_steps.proofs.engine.Engine.send_owned.Goals as goal

pub returns-clause-done : goal.returns-clause-done
returns-clause-done c =
    let ready = c.in_ok-envelope.ensures in
    let put = c.commit_send.ensures in
    subst (λ b. IfOk c.commit_send.result (λ k. Does c.args.self.now c.args.pid (step.Send c.args.on b c.args.attach.now) (reply.Sent k) c.commit_send.new.self)) c.as_slice.ensures
    (sent-done c.args.self.now c.commit_send.new.self c.args.pid c.args.on c.args.attach.now c.in_ok-envelope.envelope (sym c.as_slice.ensures) ready.fits ready.leads c.commit_send.result put.count put.settles put.pass)
