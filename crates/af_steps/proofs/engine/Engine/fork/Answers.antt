use Rattle.std.proofs.Common.{rules, ◌≡◌, ◌∙◌, ◌∷◌, [], false, sym, ap}
use Rattle.af_base.specs.declared.errno.Errno.TheVariants.{EAGAIN}
use Rattle.af_base.specs.declared.events.Reply.TheVariants as reply
use Rattle.af_base.specs.declared.events.Step.TheVariants as step
use Rattle.af_base.specs.Refusals.{first_fit, is_at_process_limit, on_processes}
use Rattle.af_steps.specs.Found.{HasProcess}
use Rattle.af_steps.proofs.LookupRows.{after-process}
use Rattle.af_steps.proofs.Outcomes.{does}
use Rattle.af_steps.proofs.engine.Engine.fork.Goals as goal

pub returns-clause-done : goal.returns-clause-done
returns-clause-done c =
    let w = c.self.inside.store.world in
    let has : HasProcess w c.args.pid c.in_ok-ok_or.field-0.now.process = record { there = search rules } in
    let room : is_at_process_limit w ≡ false = search rules in
    let fits = after-process has (λ q look. on_processes w) ∙ ap (λ b. first_fit ((b, EAGAIN) ∷ [])) room in
    does c.self.view_is c.args.pid step.Fork c.release.new.self (reply.Pid c.in_ok-child.child) c.copy_for_fork.new.self.world fits (ap reply.Pid (sym c.in_ok-child.ensures.pid)) (sym c.in_ok-child.ensures.ok) c.release.ensures.settles (c.release.ensures.pass ∙ c.copy_for_fork.ensures.pass) (c.release.ensures.since ∙ c.copy_for_fork.ensures.since)
