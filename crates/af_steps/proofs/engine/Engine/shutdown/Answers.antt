use Rattle.std.proofs.Common.{◌≡◌, ℕ, refl, sym, ap, ◌∙◌, subst}
use Rattle.std.specs.Prelude.{IfNone, IfSome}
use Rattle.af_base.specs.declared.events.Reply.TheVariants as reply
use Rattle.af_base.specs.declared.events.State.TheVariants as state
use Rattle.af_base.specs.declared.events.Step.TheVariants as step
use Rattle.af_base.specs.Changes.{shut, with_socket}
use Rattle.af_base.specs.Steps.{closes_input, closes_output, effect}
use Rattle.af_base.specs.World.{World}
use Rattle.af_collect.specs.StoreView.{StoreView}
use Rattle.af_steps.specs.Outcome.{Does}
use Rattle.af_steps.proofs.Outcomes.{does}
use Rattle.af_steps.proofs.SocketEnds.{shut-alone, shut-both, shut-fits}
use Rattle.af_steps.proofs.engine.Engine.shutdown.Goals.{in-Some, in_default}
use Rattle.af_steps.proofs.engine.Engine.shutdown.Goals as goal

pub returns-clause-done : goal.returns-clause-done
returns-clause-done c =
    let s = c.self.inside.store in
    let how = c.args.how in
    let found = c.in_ok-file.ensures.found in
    let input = c.closes_input-input.ensures in
    let output = c.closes_output-output.ensures in
    let own : c.shut.new.self ≡ record s { world = with_socket s.world c.in_ok-file.file (shut (closes_input how) (closes_output how)) } =
    c.shut.ensures ∙ (λ i. record s { world = with_socket s.world c.in_ok-file.file (shut (input i) (output i)) }) in
    let step = step.Shutdown c.args.on how in
    let leads : (v : World) → effect s.world c.args.pid step ≡ v → record s { world = v } ≡ record s { world = effect s.world c.args.pid step } = λ v is. ap (λ v. record s { world = v }) (sym is) in
    let placed : c.match-peer.self-inside.store ≡ record s { world = effect s.world c.args.pid step } = elim c.match-peer.branch [
      | in-Some z ↦
          let g = z.in-Some.peer in
          let is = subst (λ o. IfSome o (λ q. c.in_ok-file.socket.state ≡ state.Connected q)) z.in-Some.is c.peer-peer.ensures.some in
          ap (λ x. x.store) z.self-inside-is
          ∙ z.shut-in-Some.ensures
          ∙ (λ i. record (own i) { world = with_socket (own i).world g (shut (output i) (input i)) })
          ∙ leads _ (shut-both found how g is)
      | in_default z ↦
          let none = subst (λ o. IfNone o ((g : ℕ) → ¬ (c.in_ok-file.socket.state ≡ state.Connected g))) z.in_default.is c.peer-peer.ensures.none in
          ap (λ x. x.store) z.self-inside-is ∙ own ∙ leads _ (shut-alone found how none c.self.invariant.0.whole)
    ] in
    let pass = c.release.ensures.pass ∙ ap (λ (t : StoreView). t.pass) placed in
    let since = c.release.ensures.since ∙ ap (λ (t : StoreView). t.since) placed in
    let last : c.match-peer.self-inside.last_pass ≡ c.self.inside.last_pass = elim c.match-peer.branch [
      | in-Some z ↦ ap (λ x. x.last_pass) z.self-inside-is
      | in_default z ↦ ap (λ x. x.last_pass) z.self-inside-is
    ] in
    let new = c.release.new.self in
    subst (λ k. Does c.args.self.now c.args.pid step reply.Ok (record { world = new.world; pass = new.pass; last_pass = k; since = new.since })) (sym last)
    (does c.self.view_is c.args.pid step new reply.Ok c.match-peer.self-inside.store.world (shut-fits found how) refl (sym (ap (λ (t : StoreView). t.world) placed)) c.release.ensures.settles pass since)
