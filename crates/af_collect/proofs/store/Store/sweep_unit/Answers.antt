use Rattle.std.proofs.Common.{ap, subst}
use Rattle.af_collect.specs.Collecting.{NoneLeft, NoneLive}
use Rattle.af_collect.specs.Keeping.{is_running}
use Rattle.af_collect.specs.StoreView.{KeepsPass, StoreView}
use Rattle.af_collect.proofs.PassChanges.{counted_all, kept_over}
use Rattle.af_collect.proofs.EmptiedSockets.{purged_none}
use Rattle.af_collect.proofs.store.Store.sweep_unit.Goals as goal

-- Where all are swept, nothing changes.
pub returns-in_default-clause-purged : goal.returns-in_default-clause-purged
returns-in_default-clause-purged c = purged_none c.args.self.now.world 0 c.requires.sound.settled

-- No garbage of the begin is left.
none : (c : goal.In_default) → NoneLeft c.args.self.now.begun c.args.self.now.world
none c =
    let now = c.args.self.now in
    let r = c.requires in
    kept_over now.marks now.progress r.sweeping r.sound.settled (subst (λ n. NoneLive now.world n now.marks.bound) (ap (λ (t : StoreView). t.progress.swept) c.self.view_is) c.in_default.ensures.none) (subst KeepsPass c.self.view_is c.self.invariant)

pub returns-in_default-clause-gone : goal.returns-in_default-clause-gone
returns-in_default-clause-gone c = λ _. none c

-- Its sockets were counted.
pub returns-in_default-clause-counted : goal.returns-in_default-clause-counted
returns-in_default-clause-counted c = λ _. counted_all (ap is_running c.requires.sweeping) (none c) (subst KeepsPass c.self.view_is c.self.invariant)
