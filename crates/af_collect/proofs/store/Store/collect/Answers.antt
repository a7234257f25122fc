use Rattle.std.proofs.Common.{◌+◌, ℕ, ◌∙◌, ap, arith, subst, sym}
use Rattle.af_base.specs.declared.limits.TheConstants.{MAX_BUDGET}
use Rattle.af_base.specs.Pass.{IsInTime, Running}
use Rattle.af_base.specs.World.{IsLive}
use Rattle.af_base.specs.Reached.{Garbage, IsGarbageCount}
use Rattle.af_base.specs.Whole.{IsSound}
use Rattle.af_collect.specs.HoldingsView.{HoldingsView}
use Rattle.af_collect.specs.Purged.{ArePurged}
use Rattle.af_collect.proofs.EmptiedSockets.{purged_join, purged_none, purged_whole}
use Rattle.af_collect.proofs.VisiblePass.{runs_seen, seen_begun, seen_running}
use Rattle.af_collect.specs.Collecting.{Collects}
use Rattle.af_collect.specs.StoreView.{StoreView}
use Rattle.af_collect.proofs.store.Store.collect.Goals as goal

-- Nothing is purged yet.
pub loop-self-init : goal.loop-self-init
loop-self-init c =
    let w = c.args.self.now.world in
    let now = c.begin.new.self in
    let e = c.begin.ensures in
    let is = sym c.lemma_progress.ensures ∙ e.pass in
    record {
      running = runs_seen now.progress.stage now.begun w now.progress.looked 0 is;
      sound = subst IsSound (sym e.world) c.requires.sound;
      begun = seen_begun now.progress.stage now.begun w now.progress.looked 0 is;
      since = e.since;
      purged = (0, subst (λ v. ArePurged w w v 0) (sym e.world) (purged_none w 0 c.requires.sound.settled));
    }

-- The pass is in time, so its budget will be spent.
pub loop-self-smaller : goal.loop-self-smaller
loop-self-smaller c =
    let now = c.do_units.new.self in
    let u = c.do_units.ensures in
    let is = c.lemma_progress-in-loop-self.ensures ∙ seen_running now.progress.stage now.begun now.progress.looked u.running ∙ ap (λ b. Running b now.progress.looked) (u.begun ∙ c.loop-self.invariant.begun) in
    let time = subst IsInTime is c.lemma_pass.ensures.in_time in
    let more = u.working c.loop-self-test.true in
    omega (arith, time, more)

-- The sockets emptied by these units join those emptied before.
pub loop-self-preserved : goal.loop-self-preserved
loop-self-preserved c =
    let w = c.args.self.now.world in
    let b = c.loop-self.self.world in
    let d = c.do_units.new.self.world in
    let i = c.loop-self.invariant in
    let u = c.do_units.ensures in
    record {
      running = u.running;
      sound = u.sound;
      begun = u.begun ∙ i.begun;
      since = u.since ∙ i.since;
      purged = (i.purged.0 + MAX_BUDGET, purged_join w b d i.purged.0 MAX_BUDGET i.purged.1 (subst (λ v. ArePurged v b d MAX_BUDGET) i.begun u.purged));
    }

-- The pass is over: no garbage of its begin is left, and all that was purged is garbage of it.
pub returns-clause-collects : goal.returns-clause-collects
returns-clause-collects c =
    let w = c.args.self.now.world in
    let b = c.loop-self.self.world in
    let d = c.do_units.new.self.world in
    let n = c.do_units.new.self.progress.reclaimed in
    let i = c.loop-self.invariant in
    let u = c.do_units.ensures in
    let over = c.loop-self-test.false in
    let gone = subst (λ v. (f : ℕ) → Garbage v f → ¬ (IsLive d f)) i.begun (u.gone over) in
    let count = subst (λ v. IsGarbageCount v n) i.begun (u.counted over) in
    let all = purged_join w b d i.purged.0 MAX_BUDGET i.purged.1 (subst (λ v. ArePurged v b d MAX_BUDGET) i.begun u.purged) in
    let done : Collects w n d = record { test = count.0; is_garbage = count.1; purged = purged_whole d (i.purged.0 + MAX_BUDGET) count.0 all u.sound.settled gone count.1; counted = count } in
    subst (Collects w c.self.inside.progress.reclaimed) (sym (ap (λ (s : HoldingsView). s.world) c.end_pass.ensures.rest))
    (subst (λ (t : StoreView). Collects w t.progress.reclaimed t.world) (sym c.self.view_is) done)
