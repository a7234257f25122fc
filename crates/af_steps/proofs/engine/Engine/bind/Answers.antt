use Rattle.std.proofs.Common.{rules, ◌≡◌, ◌++◌, refl, sym, ap, ◌∙◌, subst}
use Rattle.std.specs.Prelude.{IfSome, None}
use Rattle.af_base.specs.declared.events.Reply.TheVariants as reply
use Rattle.af_base.specs.declared.events.Step.TheVariants as step
use Rattle.af_base.specs.Changes.{with_name, with_socket}
use Rattle.af_base.specs.Names.{named, set_of}
use Rattle.af_base.specs.Refusals.{first_fit, on_bind, on_name, socket_on}
use Rattle.af_base.proofs.SoundSteps.{goes-on, passes-on}
use Rattle.af_collect.specs.StoreView.{StoreView}
use Rattle.af_steps.proofs.LookupRows.{after-socket, ino-is, no-socket}
use Rattle.af_steps.proofs.Outcomes.{does, turned-down}
use Rattle.af_steps.proofs.engine.Engine.bind.Goals as goal

pub returns-in_err-file-clause-refused : goal.returns-in_err-file-clause-refused
returns-in_err-file-clause-refused c =
    let w = c.self.inside.store.world in
    let name = c.args.name.now in
    let s = socket_on w c.args.pid c.args.on in
    let e = c.in_err-file.field-0.0 in
    turned-down c.self.view_is c.args.pid (step.Bind c.args.on name) c.from_residual.result e c.from_residual.ensures.1
    (no-socket w c.args.pid c.args.on (on_bind s name ++ on_name (named w.files (set_of s.kind) name)) e c.in_err-file.ensures.refused)

pub returns-in_err-check_bind-clause-refused : goal.returns-in_err-check_bind-clause-refused
returns-in_err-check_bind-clause-refused c =
    let w = c.self.inside.store.world in
    let name = c.args.name.now in
    let x = c.in_ok-file.socket in
    let e = c.in_err-check_bind.field-0.0 in
    turned-down c.self.view_is c.args.pid (step.Bind c.args.on name) c.from_residual-in_err-check_bind.result e c.from_residual-in_err-check_bind.ensures.1
    (after-socket c.in_ok-file.ensures.found (λ r look s. on_bind s name ++ on_name (named w.files (set_of s.kind) name)) ∙ goes-on (on_bind x name) (on_name (named w.files (set_of x.kind) name)) e c.in_err-check_bind.ensures.err)

pub bind-requires-clause-free : goal.bind-requires-clause-free
bind-requires-clause-free c =
    let w = c.self.inside.store.world in
    let name = c.args.name.now in
    let x = c.in_ok-file.socket in
    let none : named w.files (set_of x.kind) name ≡ None = search rules in
    subst (λ o. IfSome o (λ s. named w.files (set_of s.kind) name ≡ None)) (sym c.in_ok-file.ensures.found.found) none

pub returns-clause-done : goal.returns-clause-done
returns-clause-done c =
    let w = c.self.inside.store.world in
    let name = c.args.name.now in
    let found = c.in_ok-file.ensures.found in
    let x = c.in_ok-file.socket in
    let none : named w.files (set_of x.kind) name ≡ None = search rules in
    let fits = after-socket found (λ r look s. on_bind s name ++ on_name (named w.files (set_of s.kind) name)) ∙ passes-on (on_bind x name) (on_name (named w.files (set_of x.kind) name)) c.in_ok-check_bind.ensures.ok ∙ ap (λ o. first_fit (on_name o)) none in
    let placed = c.in_ok-bind.ensures.ok in
    let leads = ap (λ f. with_socket w f (with_name name)) (ino-is found.number) ∙ sym (ap (λ (s : StoreView). s.world) placed) in
    let pass = c.release.ensures.pass ∙ ap (λ (s : StoreView). s.pass) placed in
    let since = c.release.ensures.since ∙ ap (λ (s : StoreView). s.since) placed in
    does c.self.view_is c.args.pid (step.Bind c.args.on name) c.release.new.self reply.Ok c.bind.new.self.world fits refl leads c.release.ensures.settles pass since
