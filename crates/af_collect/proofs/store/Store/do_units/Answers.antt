use Rattle.std.proofs.Common.{◌≤◌, ◌≡◌, ◌+◌, ◌-◌, arith, refl, subst, ◌∙◌, true}
use Rattle.af_base.specs.Reached.{IsGarbageCount}
use Rattle.af_collect.specs.Purged.{ArePurged}
use Rattle.af_collect.specs.Collecting.{NoneLeft}
use Rattle.af_collect.specs.Keeping.{is_running}
use Rattle.af_collect.specs.StoreView.{KeepsPass, StoreView}
use Rattle.af_collect.proofs.PassChanges.{counted_all, none_tabled}
use Rattle.af_collect.proofs.EmptiedSockets.{purged_join, purged_more, purged_none}
use Rattle.af_collect.proofs.Looks.{only-join, only-none}
use Rattle.af_collect.proofs.store.Store.do_units.Goals as goal

-- At first nothing was done.
pub loop-left-init : goal.loop-left-init
loop-left-init c =
    let now = c.args.self.now in
    let r = c.requires in
    let budget = c.args.budget in
    record {
      running = r.running;
      sound = r.sound;
      rows = refl;
      since = refl;
      begun = refl;
      few = omega arith;
      purged = purged_none now.world (budget - budget) r.sound.settled;
      marks = only-none (budget - budget) now;
      looked = refl;
    }

-- Some units more purge as many files more at most.
pub loop-left-preserved : goal.loop-left-preserved
loop-left-preserved c =
    let first = c.args.self.now.world in
    let before = c.loop-left.self.world in
    let after = c.do_unit-units.new.self.world in
    let budget = c.args.budget in
    let left = c.loop-left.left in
    let i = c.loop-left.invariant in
    let u = c.do_unit-units.ensures in
    let n = c.do_unit-units.result in
    let few = i.few in
    let low = u.few in
    let so_far = i.looked in
    let further = u.looked in
    let some = subst (λ b. ArePurged b before after n) i.begun u.purged in
    let adds : (budget - left) + n ≤ budget - (left - n) = omega (arith, few, low) in
    record {
      running = u.running;
      sound = u.sound;
      rows = u.rows ∙ i.rows;
      since = u.since ∙ i.since;
      begun = u.begun ∙ i.begun;
      few = omega (arith, few, low);
      purged = purged_more first after ((budget - left) + n) (budget - (left - n)) adds (purged_join first before after (budget - left) n i.purged some);
      marks = only-join (budget - left) n (budget - (left - n)) adds c.args.self.now c.loop-left.self c.do_unit-units.new.self i.marks u.marks;
      looked = omega (arith, so_far, further, few, low);
    }

-- The pass is over, and has emptied at most as many as the budget.
pub returns-then-units-eq0-clause-purged : goal.returns-then-units-eq0-clause-purged
returns-then-units-eq0-clause-purged c =
    let first = c.args.self.now.world in
    let before = c.loop-left.self.world in
    let after = c.do_unit-units.new.self.world in
    let budget = c.args.budget in
    let left = c.loop-left.left in
    let i = c.loop-left.invariant in
    let n = c.do_unit-units.result in
    let few = i.few in
    let low = c.do_unit-units.ensures.few in
    let some = subst (λ b. ArePurged b before after n) i.begun c.do_unit-units.ensures.purged in
    purged_more first after ((budget - left) + n) budget (omega (arith, few, low)) (purged_join first before after (budget - left) n i.purged some)

-- The begin is the same still.
pub returns-then-units-eq0-clause-counted : goal.returns-then-units-eq0-clause-counted
returns-then-units-eq0-clause-counted c = λ _.
    subst (λ b. IsGarbageCount b c.do_unit-units.new.self.progress.reclaimed) c.loop-left.invariant.begun (c.do_unit-units.ensures.counted c.if-units-eq0.true)

-- Where nothing is in flight nothing is purged.
pub returns-then-is_calm-clause-purged : goal.returns-then-is_calm-clause-purged
returns-then-is_calm-clause-purged c = purged_none c.args.self.now.world c.args.budget c.requires.sound.settled

-- A table holds each file, so no garbage of the begin is live.
none : (c : goal.Then-is_calm) → NoneLeft c.args.self.now.begun c.args.self.now.world
none c = subst (λ (t : StoreView). is_running t.progress.stage ≡ true → NoneLeft t.begun t.world) c.self.view_is (λ e. none_tabled e (c.is_calm.ensures c.if-is_calm.true) c.self.invariant) c.requires.running

pub returns-then-is_calm-clause-gone : goal.returns-then-is_calm-clause-gone
returns-then-is_calm-clause-gone c = λ _. none c

-- And its sockets were counted.
pub returns-then-is_calm-clause-counted : goal.returns-then-is_calm-clause-counted
returns-then-is_calm-clause-counted c = λ _. counted_all c.requires.running (none c) (subst KeepsPass c.self.view_is c.self.invariant)

-- The last unit marked nothing.
pub returns-then-units-eq0-clause-marks : goal.returns-then-units-eq0-clause-marks
returns-then-units-eq0-clause-marks c =
    let few = c.loop-left.invariant.few in
    let low = c.do_unit-units.ensures.few in
    only-join (c.args.budget - c.loop-left.left) c.do_unit-units.result c.args.budget (omega (arith, few, low)) c.args.self.now c.loop-left.self c.do_unit-units.new.self c.loop-left.invariant.marks c.do_unit-units.ensures.marks

-- Where nothing is in flight nothing is marked.
pub returns-then-is_calm-clause-marks : goal.returns-then-is_calm-clause-marks
returns-then-is_calm-clause-marks c = only-none c.args.budget c.args.self.now

-- The whole budget is spent.
pub returns-clause-marks : goal.returns-clause-marks
returns-clause-marks c =
    let p = c.loop-left.self in
    only-join (c.args.budget - c.loop-left.left) 0 c.args.budget (omega arith) c.args.self.now p p c.loop-left.invariant.marks (only-none 0 p)
