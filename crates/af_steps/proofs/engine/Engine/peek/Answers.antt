use Rattle.std.proofs.Common.{rules, sym, ap, ◌∙◌}
use Rattle.af_base.specs.declared.events.Step.TheVariants as step
use Rattle.af_collect.specs.StoreView.{StoreView}
use Rattle.af_steps.specs.Found.{HasEnd, HasMessage}
use Rattle.af_steps.specs.Outcome.{got_reply}
use Rattle.af_steps.proofs.EmptyReceives.{peek-end}
use Rattle.af_steps.proofs.Outcomes.{does}
use Rattle.af_steps.proofs.WaitingMessages.{got-is, peek-is}
use Rattle.af_steps.proofs.engine.Engine.peek.Goals as goal

pub returns-in_default-clause-done : goal.returns-in_default-clause-done
returns-in_default-clause-done c =
    let found = c.in_ok-file.ensures in
    let end : HasEnd c.self.inside.store.world c.args.pid c.args.on c.args.max_bytes c.args.max_fds = search rules in
    peek-end c.self.view_is end c.self.invariant.0 c.prepare_receive.new.store found.world found.pass found.since

pub returns-clause-done : goal.returns-clause-done
returns-clause-done c =
    let p = c.args.pid in
    let bytes = c.args.max_bytes in
    let f = c.in-Some.file in
    let found = c.in_ok-file.ensures in
    let took = c.in_ok-seen.ensures in
    let message : HasMessage c.self.inside.store.world p c.args.on bytes c.args.max_fds f c.prepare_receive.new.fds.items = search rules in
    let numbers = c.as_slice.ensures in
    let reply = got-is message found.world numbers c.in_ok-seen.seen took.seen ∙ sym (ap got_reply c.receive_answer.ensures) in
    let leads = peek-is message found.world numbers ∙ sym (ap (λ (s : StoreView). s.world) took.world) in
    let pass = c.release.ensures.pass ∙ ap (λ (s : StoreView). s.pass) took.world ∙ found.pass in
    let since = c.release.ensures.since ∙ ap (λ (s : StoreView). s.since) took.world ∙ found.since in
    does c.self.view_is p (step.Peek c.args.on bytes c.args.max_fds) c.release.new.self (got_reply c.receive_answer.result) c.peek_msg.new.self.world found.fits reply leads c.release.ensures.settles pass since
