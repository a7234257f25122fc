use Rattle.std.proofs.Common.{◌≡◌, ℕ, sym, ap, ◌∙◌, subst}
use Rattle.std.specs.List.{Contains}
use Rattle.af_base.specs.Changes.{push_message}
use Rattle.af_base.specs.Pass.{Machine}
use Rattle.af_base.specs.Places.{InTable}
use Rattle.af_base.specs.Unheld.{Settles}
use Rattle.af_base.specs.World.{IsLive, Message}
use Rattle.af_collect.specs.Keeping.{NotBegunGarbage}
use Rattle.af_collect.specs.StoreView.{StoreView}
use Rattle.af_steps.proofs.engine.Engine.commit_send.Goals as goal

-- The attached files are in tables of the inner world too.
carried : (inside old : Machine) (m given : Message) → inside ≡ old → m ≡ given → ((f : ℕ) → Contains given.attached f → InTable old.world f) → (f : ℕ) → Contains m.attached f → InTable inside.world f
carried inside old m given shown is tabled f h = subst (λ (x : Machine). InTable x.world f) (sym shown) (tabled f (subst (λ (x : Message). Contains x.attached f) is h))

pub put_msg-requires-clause-live : goal.put_msg-requires-clause-live
put_msg-requires-clause-live c =
    λ f h. subst (λ (s : StoreView). IsLive s.world f) (sym c.room_for_message.ensures.rest)
    (c.self.invariant.0.whole.tables_live f (carried (record { world = c.self.inside.store.world; pass = c.self.inside.store.pass; last_pass = c.self.inside.last_pass; since = c.self.inside.store.since }) c.args.self.now c.new-message.result (record { bytes = c.args.bytes; attached = c.args.envelope.attached.items; user = c.args.envelope.user }) c.self.view_is c.new-message.ensures c.requires.tabled f h))

pub put_msg-requires-clause-spared : goal.put_msg-requires-clause-spared
put_msg-requires-clause-spared c =
    λ f h. subst (λ (s : StoreView). NotBegunGarbage s.pass f) (sym c.room_for_message.ensures.rest)
    (c.lemma_is_spared.ensures f (carried (record { world = c.self.inside.store.world; pass = c.self.inside.store.pass; last_pass = c.self.inside.last_pass; since = c.self.inside.store.since }) c.args.self.now c.new-message.result (record { bytes = c.args.bytes; attached = c.args.envelope.attached.items; user = c.args.envelope.user }) c.self.view_is c.new-message.ensures c.requires.tabled f h))

pub returns-clause-settles : goal.returns-clause-settles
returns-clause-settles c =
    let peer = c.args.envelope.peer in
    let leads = ap (λ (s : StoreView). s.world) c.put_msg.ensures ∙ ap (λ (s : StoreView). push_message s.world peer c.new-message.result) c.room_for_message.ensures.rest ∙ (λ i. push_message (c.self.view_is i).world peer (c.new-message.ensures i)) in
    subst (λ v. Settles v c.release.new.self.world) leads c.release.ensures.settles
