use Rattle.std.proofs.Common.{◌≡◌, refl, sym, ap, ◌∙◌, subst}
use Rattle.std.specs.Prelude.{IfSome}
use Rattle.af_base.specs.declared.events.Reply.TheVariants as reply
use Rattle.af_base.specs.declared.events.State.TheVariants as state
use Rattle.af_base.specs.declared.events.Step.TheVariants as step
use Rattle.af_base.specs.Changes.{listening, with_socket}
use Rattle.af_base.specs.Refusals.{on_listen, socket_on}
use Rattle.af_base.specs.World.{Socket}
use Rattle.af_collect.specs.StoreView.{StoreView}
use Rattle.af_steps.proofs.Connections.{idle-listener}
use Rattle.af_steps.proofs.LookupRows.{after-socket, ino-is, no-socket}
use Rattle.af_steps.proofs.Outcomes.{does, turned-down}
use Rattle.af_steps.proofs.engine.Engine.listen.Goals as goal

pub returns-in_err-file-clause-refused : goal.returns-in_err-file-clause-refused
returns-in_err-file-clause-refused c =
    let w = c.self.inside.store.world in
    let e = c.in_err-file.field-0.0 in
    turned-down c.self.view_is c.args.pid (step.Listen c.args.on c.args.backlog) c.from_residual.result e c.from_residual.ensures.1
    (no-socket w c.args.pid c.args.on (on_listen (socket_on w c.args.pid c.args.on) c.args.backlog) e c.in_err-file.ensures.refused)

pub returns-in_err-check_listen-clause-refused : goal.returns-in_err-check_listen-clause-refused
returns-in_err-check_listen-clause-refused c =
    turned-down c.self.view_is c.args.pid (step.Listen c.args.on c.args.backlog) c.from_residual-in_err-check_listen.result c.in_err-check_listen.field-0.0 c.from_residual-in_err-check_listen.ensures.1
    (after-socket c.in_ok-file.ensures.found (λ r look s. on_listen s c.args.backlog) ∙ c.in_err-check_listen.ensures.err)

pub returns-clause-done : goal.returns-clause-done
returns-clause-done c =
    let w = c.self.inside.store.world in
    let found = c.in_ok-file.ensures.found in
    let backlog = c.args.backlog in
    let fits = after-socket found (λ r look s. on_listen s backlog) ∙ c.in_ok-check_listen.ensures.ok in
    let placed = c.in_ok-listen.ensures.ok in
    let leads = ap (λ f. with_socket w f (listening backlog)) (ino-is found.number) ∙ sym (ap (λ (s : StoreView). s.world) placed) in
    let pass = c.release.ensures.pass ∙ ap (λ (s : StoreView). s.pass) placed in
    let since = c.release.ensures.since ∙ ap (λ (s : StoreView). s.since) placed in
    does c.self.view_is c.args.pid (step.Listen c.args.on backlog) c.release.new.self reply.Ok c.listen.new.self.world fits refl leads c.release.ensures.settles pass since

pub listen-requires-clause-idle : goal.listen-requires-clause-idle
listen-requires-clause-idle c =
    let found = c.in_ok-file.ensures.found in
    subst (λ o. IfSome o (λ (s : Socket). s.state ≡ state.Idle)) (sym found.found)
    (idle-listener c.in_ok-file.socket c.args.backlog
    (c.self.invariant.0.whole.types c.in_ok-file.file c.in_ok-file.socket found.found)
    c.in_ok-check_listen.ensures.ok)
