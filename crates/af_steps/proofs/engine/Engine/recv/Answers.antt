use Rattle.std.proofs.Common.{rules, sym, ap, ◌∙◌}
use Rattle.af_base.specs.declared.events.Step.TheVariants as step
use Rattle.af_collect.specs.StoreView.{StoreView}
use Rattle.af_steps.specs.Found.{HasEnd, HasMessage}
use Rattle.af_steps.specs.Outcome.{got_reply}
use Rattle.af_steps.proofs.EmptyReceives.{recv-end}
use Rattle.af_steps.proofs.Outcomes.{does, not-starved}
use Rattle.af_steps.proofs.WaitingMessages.{got-is, packet-in, recv-is}
use Rattle.af_steps.proofs.engine.Engine.recv.Goals as goal

pub returns-in_default-clause-done : goal.returns-in_default-clause-done
returns-in_default-clause-done c =
    let found = c.in_ok-file.ensures in
    let end : HasEnd c.self.inside.store.world c.args.pid c.args.on c.args.max_bytes c.args.max_fds = search rules in
    recv-end c.self.view_is end c.self.invariant.0 c.prepare_receive.new.store found.world found.pass found.since

pub returns-clause-done : goal.returns-clause-done
returns-clause-done c =
    let p = c.args.pid in
    let bytes = c.args.max_bytes in
    let f = c.in-Some.file in
    let found = c.in_ok-file.ensures in
    let took = c.in_ok-take_msg.ensures in
    let message : HasMessage c.self.inside.store.world p c.args.on bytes c.args.max_fds f c.prepare_receive.new.fds.items = search rules in
    let numbers = c.as_slice.ensures in
    let reply = got-is message found.world numbers c.take_msg.new.taken took.taken ∙ sym (ap got_reply c.receive_answer.ensures) in
    let leads = recv-is message found.world numbers ∙ sym (ap (λ (s : StoreView). s.world) took.world) in
    let pass = c.release.ensures.pass ∙ ap (λ (s : StoreView). s.pass) took.world ∙ found.pass in
    let since = c.release.ensures.since ∙ ap (λ (s : StoreView). s.since) took.world ∙ found.since in
    does c.self.view_is p (step.Recv c.args.on bytes c.args.max_fds) c.release.new.self (got_reply c.receive_answer.result) c.take_msg.new.self.world found.fits reply leads c.release.ensures.settles pass since

pub returns-in_err-file-clause-succeeds : goal.returns-in_err-file-clause-succeeds
returns-in_err-file-clause-succeeds c =
    not-starved c.self.view_is c.args.pid (step.Recv c.args.on c.args.max_bytes c.args.max_fds) c.from_residual.result c.in_err-file.was c.prepare_receive.ensures.succeeds

pub returns-in_err-take_msg-clause-succeeds : goal.returns-in_err-take_msg-clause-succeeds
returns-in_err-take_msg-clause-succeeds c =
    let found = c.in_ok-file.ensures in
    let message : HasMessage c.self.inside.store.world c.args.pid c.args.on c.args.max_bytes c.args.max_fds c.in-Some.file c.prepare_receive.new.fds.items = search rules in
    not-starved c.self.view_is c.args.pid (step.Recv c.args.on c.args.max_bytes c.args.max_fds) c.from_residual-in_err-take_msg.result c.in_err-take_msg.was (λ sure. c.take_msg.ensures.succeeds (packet-in message found.world sure.room.0))
