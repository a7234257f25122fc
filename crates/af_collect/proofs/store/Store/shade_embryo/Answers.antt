use Rattle.std.proofs.Common.{◌≡◌, ℕ, true, sym, ap, ◌∙◌, subst}
use Rattle.std.specs.Prelude.{Some, slice_get, take}
use Rattle.af_base.specs.Places.{backlog_at}
use Rattle.af_base.specs.World.{IsLive}
use Rattle.af_mark.specs.MarksView.{is_marked}
use Rattle.af_collect.specs.HoldingsView.{HoldingsView}
use Rattle.af_collect.specs.Keeping.{NotBegunGarbage, is_marking}
use Rattle.af_collect.proofs.SparedFiles.{marking_runs, spared_running}
use Rattle.af_collect.specs.StoreView.{KeepsPass, StoreView}
use Rattle.af_collect.proofs.LostFiles.{embryo_held, first_taken, kept_held, marked_there}
use Rattle.af_collect.proofs.StoreInvariant.{shown}
use Rattle.af_collect.proofs.store.Store.shade_embryo.Goals as goal

-- The listener is no garbage, so its first embryo is none.
pub invariant_of-self : goal.invariant_of-self
invariant_of-self c =
    let p = c.self.inside in
    let w = p.holdings.world in
    let begun = p.begun.value.world in
    let s = c.args.listener.now in
    let t = ap (λ (o : StoreView). is_marking o.progress.stage) c.self.view_is ∙ sym c.is_marking.ensures ∙ c.if-is_marking.true in
    let spared = subst (λ (o : StoreView). NotBegunGarbage o.pass s) (sym c.self.view_is) c.requires.spared in
    subst (λ (h : HoldingsView). KeepsPass (shown p h)) (sym c.shade_embryo.ensures)
    (kept_held (take 1 (backlog_at w s)) s c.lemma_is_whole.ensures.whole t (spared_running p.progress.stage begun p.progress.looked s (marking_runs p.progress.stage t) spared) (embryo_held w s) c.self.invariant)

-- The first embryo was shaded.
pub returns-then-is_marking-clause-marked : goal.returns-then-is_marking-clause-marked
returns-then-is_marking-clause-marked c =
    let w = c.self.inside.holdings.world in
    let s = c.args.listener.now in
    let new = c.shade_embryo.new.holdings.marks in
    subst (λ (o : StoreView). is_marking o.progress.stage ≡ true → (f : ℕ) → slice_get (backlog_at o.world s) 0 ≡ Some f → IsLive o.begun f → is_marked new f ≡ true) c.self.view_is (λ t f first b.
    let h = first_taken (backlog_at w s) f first in
    ap (λ (s : HoldingsView). is_marked s.marks f) c.shade_embryo.ensures ∙ marked_there (take 1 (backlog_at w s)) f t h (c.lemma_is_whole.ensures.whole.queues_live s f (embryo_held w s f h)) c.self.invariant b)
