use Rattle.std.proofs.Common.{◌≡◌, refl, sym, ap, ◌∙◌, subst}
use Rattle.std.specs.Prelude.{IfSome, None}
use Rattle.af_base.specs.declared.events.Reply.TheVariants as reply
use Rattle.af_base.specs.declared.events.Step.TheVariants as step
use Rattle.af_base.specs.Refusals.{refusal}
use Rattle.af_collect.specs.StoreView.{StoreView}
use Rattle.af_steps.specs.Found.{HasListener}
use Rattle.af_steps.proofs.Outcomes.{does, turned-down}
use Rattle.af_steps.proofs.engine.Engine.connect.Goals as goal

pub returns-in_err-client-clause-refused : goal.returns-in_err-client-clause-refused
returns-in_err-client-clause-refused c =
    turned-down c.self.view_is c.args.pid (step.Connect c.args.on c.args.name.now) c.from_residual.result c.in_err-client.field-0.0 c.from_residual.ensures.1 c.in_err-client.ensures.refused

pub make_embryo-requires : goal.make_embryo-requires
make_embryo-requires c =
    let w = c.self.inside.store.world in
    let has : HasListener w c.args.pid c.args.on c.args.name.now c.in-Some.client c.in-Some.listener c.in-Some.kind =
    subst (λ o. IfSome o (λ f. HasListener w c.args.pid c.args.on c.args.name.now f.0 f.1 f.2)) c.in-Some.is c.in_ok-client.ensures.found in
    record { full = has.full; client = has.client; kind = has.type; connections = has.connections; idle = has.idle; listener = has.listener; room = has.room }

pub returns-clause-done : goal.returns-clause-done
returns-clause-done c =
    let w = c.self.inside.store.world in
    let has : HasListener w c.args.pid c.args.on c.args.name.now c.in-Some.client c.in-Some.listener c.in-Some.kind =
    subst (λ o. IfSome o (λ f. HasListener w c.args.pid c.args.on c.args.name.now f.0 f.1 f.2)) c.in-Some.is c.in_ok-client.ensures.found in
    let fits = subst (λ o. IfSome o (λ _. refusal w c.args.pid (step.Connect c.args.on c.args.name.now) ≡ None)) c.in-Some.is c.in_ok-client.ensures.fits in
    let placed = c.in_ok-make_embryo.ensures.ok in
    let leads = has.leads ∙ sym (ap (λ (s : StoreView). s.world) placed) in
    let pass = c.release.ensures.pass ∙ ap (λ (s : StoreView). s.pass) placed in
    let since = c.release.ensures.since ∙ ap (λ (s : StoreView). s.since) placed in
    does c.self.view_is c.args.pid (step.Connect c.args.on c.args.name.now) c.release.new.self reply.Ok c.make_embryo.new.self.world fits refl leads c.release.ensures.settles pass since
