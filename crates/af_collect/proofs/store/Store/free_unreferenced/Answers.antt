use Rattle.std.proofs.Common.{◌≡◌, ◌<◌, nat_eq, sym, ap, ◌∙◌, subst}
use Rattle.af_base.specs.Counts.{refs}
use Rattle.af_base.specs.Places.{held_by, queue_at}
use Rattle.af_base.specs.Unheld.{Settles, without}
use Rattle.af_base.specs.World.{IsLive}
use Rattle.af_base.proofs.SettledPlaces.{settles-without}
use Rattle.af_base.proofs.SettledWorlds.{settles_none}
use Rattle.af_collect.specs.StoreView.{StoreView}
use Rattle.af_base.specs.Whole.{IsSound}
use Rattle.af_collect.proofs.LossOutcomes.{burden-lost, none-held, none-silent, nothing-lost, settles-lost, burden, burden-gone, freed_step}
use Rattle.af_collect.proofs.store.Store.free_unreferenced.Goals as goal
use Rattle.af_collect.proofs.store.Store.free_unreferenced.Goals.{Then-not-drop_place}

-- The world that a file which holds nothing leaves as it was.
same : (c : goal.Then-not-drop_place) → c.drop_place.new.self.world ≡ c.loop-file.self.world
same c = nothing-lost c.loop-file.self.world c.drop_place.new.self.world c.in-Some.file (ap (λ (t : StoreView). t.world) c.drop_place.ensures.drops) (c.drop_place.ensures.none c.if-not-drop_place.true)

-- It is live there.
pub free_bare-requires-clause-live : goal.free_bare-requires-clause-live
free_bare-requires-clause-live c = subst (λ w. IsLive w c.in-Some.file) (ap (λ (t : StoreView). t.world) c.self.view_is ∙ sym (same (goal.at.free_bare-requires-clause-live c).Then-not-drop_place)) c.in-Some.ensures.live

-- Nothing holds it.
pub free_bare-requires-clause-unheld : goal.free_bare-requires-clause-unheld
free_bare-requires-clause-unheld c = subst (λ w. refs w c.in-Some.file ≡ 0) (ap (λ (t : StoreView). t.world) c.self.view_is ∙ sym (same (goal.at.free_bare-requires-clause-unheld c).Then-not-drop_place)) c.in-Some.ensures.unheld

-- It holds nothing.
pub free_bare-requires-clause-bare : goal.free_bare-requires-clause-bare
free_bare-requires-clause-bare c = ap (λ w. held_by w c.in-Some.file) (same (goal.at.free_bare-requires-clause-bare c).Then-not-drop_place) ∙ none-held c.loop-file.self.world c.in-Some.file (c.drop_place.ensures.none c.if-not-drop_place.true)

-- It has no message.
pub free_bare-requires-clause-silent : goal.free_bare-requires-clause-silent
free_bare-requires-clause-silent c = ap (λ w. queue_at w c.in-Some.file) (same (goal.at.free_bare-requires-clause-silent c).Then-not-drop_place) ∙ none-silent c.loop-file.self.world c.in-Some.file (c.drop_place.ensures.none c.if-not-drop_place.true)

-- A file less is less to do.
pub loop-file-smaller-then-not-drop_place : goal.loop-file-smaller-then-not-drop_place
loop-file-smaller-then-not-drop_place c =
    let w = c.loop-file.self.world in
    let f = c.in-Some.file in
    let gone = ap (λ (t : StoreView). t.world) c.free_bare.ensures.frees ∙ ap (without (nat_eq f)) (same (goal.at.loop-file-smaller-then-not-drop_place c).Then-not-drop_place) in
    subst (λ x. burden x < burden w) (sym gone) (burden-gone w f (subst (λ (t : StoreView). IsLive t.world f) c.self.view_is c.in-Some.ensures.live))

-- A place less is less to do.
pub loop-file-smaller : goal.loop-file-smaller
loop-file-smaller c = burden-lost c.loop-file.self.world c.drop_place.new.self.world c.in-Some.file (ap (λ (t : StoreView). t.world) c.drop_place.ensures.drops) (c.drop_place.ensures.some c.if-not-drop_place.false)

-- A file that nothing holds, and that holds nothing, has gone.
pub loop-file-preserved-then-not-drop_place : goal.loop-file-preserved-then-not-drop_place
loop-file-preserved-then-not-drop_place c =
    let w = c.loop-file.self.world in
    let f = c.in-Some.file in
    let i = c.loop-file.invariant in
    let gone = ap (λ (t : StoreView). t.world) c.free_bare.ensures.frees ∙ ap (without (nat_eq f)) (same (goal.at.loop-file-preserved-then-not-drop_place c).Then-not-drop_place) in
    let was = subst (λ (t : StoreView). IsLive t.world f × (refs t.world f ≡ 0)) c.self.view_is (c.in-Some.ensures.live, c.in-Some.ensures.unheld) in
    record {
      settles = λ end s. i.settles end (settles-without w f was.0 was.1 end (subst (λ x. Settles x end) gone s));
      frame = freed_step c.free_bare.new.self c.drop_place.new.self c.args.self.now _ _ _ _ c.free_bare.ensures.frees (freed_step c.drop_place.new.self c.loop-file.self c.args.self.now _ _ _ _ c.drop_place.ensures.drops i.frame);
    }

-- A file that nothing holds has lost the first of what it held.
pub loop-file-preserved : goal.loop-file-preserved
loop-file-preserved c =
    let w = c.loop-file.self.world in
    let f = c.in-Some.file in
    let i = c.loop-file.invariant in
    let d = c.drop_place.ensures in
    let was = subst (λ (t : StoreView). IsLive t.world f × (refs t.world f ≡ 0)) c.self.view_is (c.in-Some.ensures.live, c.in-Some.ensures.unheld) in
    record {
      settles = λ end s. i.settles end (settles-lost w c.drop_place.new.self.world f (ap (λ (t : StoreView). t.world) d.drops) was.0 was.1 (d.some c.if-not-drop_place.false) end s);
      frame = freed_step c.drop_place.new.self c.loop-file.self c.args.self.now _ _ _ _ d.drops i.frame;
    }

-- Nothing is left to be freed.
pub returns-clause-settles : goal.returns-clause-settles
returns-clause-settles c = c.loop-file.invariant.settles c.loop-file.self.world (settles_none c.loop-file.self.world (subst (λ (t : StoreView). IsSound t.world) c.self.view_is c.in_default.ensures.none).settled)
