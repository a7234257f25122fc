use Rattle.std.proofs.Common.{◌≡◌, ℕ, true, sym, ap, ◌∙◌, subst}
use Rattle.af_base.specs.Places.{Holds, held_by}
use Rattle.af_base.specs.World.{IsLive}
use Rattle.af_mark.specs.MarksView.{is_marked}
use Rattle.af_collect.specs.HoldingsView.{HoldingsView}
use Rattle.af_collect.specs.Keeping.{NotBegunGarbage, is_marking}
use Rattle.af_collect.specs.StoreView.{KeepsPass, StoreView}
use Rattle.af_collect.proofs.LostFiles.{kept_held, marked_there}
use Rattle.af_collect.proofs.SparedFiles.{marking_runs, spared_running}
use Rattle.af_collect.proofs.StoreInvariant.{shown}
use Rattle.af_collect.proofs.store.Store.shade_held.Goals as goal

-- The socket is no garbage, so what it holds is none.
pub invariant_of-self : goal.invariant_of-self
invariant_of-self c =
    let p = c.self.inside in
    let w = p.holdings.world in
    let s = c.args.socket.now in
    let t = ap (λ (o : StoreView). is_marking o.progress.stage) c.self.view_is
    ∙ sym c.is_marking.ensures ∙ c.if-is_marking.true in
    let spared = subst (λ (o : StoreView). NotBegunGarbage o.pass s) (sym c.self.view_is)
    c.requires.spared in
    subst (λ (h : HoldingsView). KeepsPass (shown p h)) (sym c.shade_held.ensures)
    (kept_held (held_by w s) s c.lemma_is_whole.ensures.whole t
    (spared_running p.progress.stage p.begun.value.world p.progress.looked s
    (marking_runs p.progress.stage t) spared) (λ f h. h) c.self.invariant)

-- All that it holds was shaded.
pub returns-then-is_marking-clause-marked : goal.returns-then-is_marking-clause-marked
returns-then-is_marking-clause-marked c =
    let w = c.self.inside.holdings.world in
    let s = c.args.socket.now in
    let new = c.shade_held.new.holdings.marks in
    subst (λ (o : StoreView). is_marking o.progress.stage ≡ true → (f : ℕ) → Holds o.world s f
    → IsLive o.begun f → is_marked new f ≡ true) c.self.view_is (λ t f h b.
    ap (λ (s : HoldingsView). is_marked s.marks f) c.shade_held.ensures
    ∙ marked_there (held_by w s) f t h (c.lemma_is_whole.ensures.whole.queues_live s f h)
    c.self.invariant b)
