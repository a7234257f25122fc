use Rattle.std.proofs.Common.{◌≡◌, ◌<◌, ℕ, true, ap, sym, subst, ◌∙◌}
use Rattle.std.proofs.lemmas.Bool.{false≢true}
use Rattle.af_base.specs.Reached.{IsGarbageCount}
use Rattle.af_collect.specs.Collecting.{NoneLeft}
use Rattle.af_collect.specs.Keeping.{is_marking, is_running}
use Rattle.af_collect.specs.StoreView.{KeepsPass, StoreView}
use Rattle.af_collect.specs.Purged.{ArePurged}
use Rattle.af_mark.specs.MarksView.{MarksView, is_marked, knows}
use Rattle.af_collect.proofs.PassChanges.{counted_all, none_marked}
use Rattle.af_collect.proofs.EmptiedSockets.{purged_none}
use Rattle.af_collect.proofs.Looks.{only-none}
use Rattle.af_collect.proofs.store.Store.do_unit.Goals as goal
use Rattle.af_collect.proofs.store.Store.do_unit.Goals.{then-is_marking+else-units-gt0, else-is_marking}

-- Marking purges nothing.
pub returns-then-units-gt0-clause-purged : goal.returns-then-units-gt0-clause-purged
returns-then-units-gt0-clause-purged c =
    let now = c.args.self.now in
    let n = c.mark_unit-units.result in
    subst (λ (t : StoreView). ArePurged now.begun now.world t.world n) (sym c.mark_unit-units.ensures.frame) (purged_none now.world n c.requires.sound.settled)

-- Where marking has ended, its begin is the same still.
pub returns-clause-counted : goal.returns-clause-counted
returns-clause-counted c = λ over.
    let begun : c.if-is_marking.self.begun ≡ c.args.self.now.begun = elim c.if-is_marking.branch [
      | then-is_marking+else-units-gt0 w ↦ ap (λ (t : StoreView). t.begun) (w.self-is ∙ w.mark_unit-units.ensures.frame)
      | else-is_marking w ↦ ap (λ (t : StoreView). t.begun) w.self-is
    ] in
    subst (λ b. IsGarbageCount b c.sweep_unit.new.self.progress.reclaimed) begun (c.sweep_unit.ensures.counted over)

-- Where all are marked nothing is purged.
pub returns-then-are_marked-clause-purged : goal.returns-then-are_marked-clause-purged
returns-then-are_marked-clause-purged c = purged_none c.args.self.now.world 0 c.requires.sound.settled

-- No garbage of the begin is live.
none : (c : goal.Then-are_marked) → NoneLeft c.args.self.now.begun c.args.self.now.world
none c =
    let all = subst (λ (m : MarksView). (f : ℕ) → knows m f ≡ true → f < m.bound → is_marked m f ≡ true) c.files.ensures.marks (c.are_marked.ensures c.if-are_marked.true) in
    subst (λ (t : StoreView). is_running t.progress.stage ≡ true → NoneLeft t.begun t.world) c.self.view_is (λ e. none_marked e all c.self.invariant) c.requires.running

pub returns-then-are_marked-clause-gone : goal.returns-then-are_marked-clause-gone
returns-then-are_marked-clause-gone c = λ _. none c

-- And its sockets were counted.
pub returns-then-are_marked-clause-counted : goal.returns-then-are_marked-clause-counted
returns-then-are_marked-clause-counted c = λ _. counted_all c.requires.running (none c) (subst KeepsPass c.self.view_is c.self.invariant)

-- Where all are marked nothing changes.
pub returns-then-are_marked-clause-marks : goal.returns-then-are_marked-clause-marks
returns-then-are_marked-clause-marks c = only-none 0 c.args.self.now

-- A pass that sweeps no longer marks.
pub returns-clause-marks : goal.returns-clause-marks
returns-clause-marks c = λ t. absurd (false≢true (sym (ap is_marking c.sweep_unit.ensures.stage) ∙ t))

-- It marked, and marks still.
pub returns-then-units-gt0-clause-marks : goal.returns-then-units-gt0-clause-marks
returns-then-units-gt0-clause-marks c = λ t. (sym c.is_marking.ensures ∙ c.if-is_marking.true, ap (λ (t : StoreView). t.world) c.mark_unit-units.ensures.frame, c.mark_unit-units.ensures.marks)
