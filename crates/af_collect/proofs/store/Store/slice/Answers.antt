use Rattle.std.proofs.Common.{◌∙◌, ap, subst, sym}
use Rattle.af_base.specs.declared.events.Reply.TheVariants as reply
use Rattle.af_base.specs.Pass.{Idle, Slices}
use Rattle.af_collect.proofs.VisiblePass.{seen_begun, seen_spent, slices_done, slices_working}
use Rattle.af_collect.specs.HoldingsView.{HoldingsView}
use Rattle.af_collect.specs.Keeping.{pass_of}
use Rattle.af_collect.specs.Purged.{ArePurged}
use Rattle.af_collect.specs.StoreView.{StoreView}
use Rattle.af_collect.proofs.store.Store.slice.Goals as goal

-- Work is left, and the budget is spent.
pub returns-then-not-do_units-clause-does : goal.returns-then-not-do_units-clause-does
returns-then-not-do_units-clause-does c = λ begun spent pass e.
    let old = c.args.self.now in
    let new = c.do_units.new.self in
    let u = c.do_units.ensures in
    let is = sym c.lemma_progress.ensures ∙ e in
    let after = c.lemma_progress-then-not-do_units.ensures ∙ ap (λ b. pass_of new.progress.stage b new.progress.looked) u.begun
    ∙ seen_spent old.progress.stage new.progress.stage old.begun begun old.progress.looked new.progress.looked c.args.budget spent is u.running (u.working c.if-not-do_units.true) in
    slices_working begun old.world new.world spent c.args.budget pass new.pass
    (subst (λ b. ArePurged b old.world new.world c.args.budget) (seen_begun old.progress.stage old.begun begun old.progress.looked spent is) u.purged) after c.lemma_pass.ensures.in_time

-- The pass is over: no garbage of its begin is left.
pub returns-clause-does : goal.returns-clause-does
returns-clause-does c = λ begun spent pass e.
    let old = c.args.self.now in
    let v = c.do_units.new.self.world in
    let n = c.do_units.new.self.progress.reclaimed in
    let u = c.do_units.ensures in
    let over = c.if-not-do_units.false in
    let is = seen_begun old.progress.stage old.begun begun old.progress.looked spent (sym c.lemma_progress.ensures ∙ e) in
    let done = subst (λ b. Slices b old.world spent c.args.budget pass (reply.Done pass n) v Idle) is (slices_done old.begun old.world v spent c.args.budget pass n u.purged (u.gone over) (u.counted over)) in
    subst (λ x. Slices begun old.world spent c.args.budget pass (reply.Done pass c.self.inside.progress.reclaimed) x Idle) (sym (ap (λ (s : HoldingsView). s.world) c.end_pass.ensures.rest))
    (subst (λ (t : StoreView). Slices begun old.world spent c.args.budget pass (reply.Done pass t.progress.reclaimed) t.world Idle) (sym c.self.view_is) done)
