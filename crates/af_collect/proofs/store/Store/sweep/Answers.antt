use Rattle.std.proofs.Common.{◌≡◌, ℕ, ◌+◌, ap, nat_eq, sym, subst, ◌∙◌}
use Rattle.af_base.specs.Pass.{emptied}
use Rattle.af_base.specs.Unheld.{Settles}
use Rattle.af_base.specs.World.{World}
use Rattle.af_collect.specs.HoldingsView.{HoldingsView}
use Rattle.af_mark.specs.MarksView.{MarksView, is_marked}
use Rattle.af_collect.specs.Collecting.{IsFirstFrom}
use Rattle.af_collect.specs.Keeping.{PassInvariant}
use Rattle.af_collect.specs.Purged.{ArePurged}
use Rattle.af_collect.specs.StoreView.{StoreView}
use Rattle.af_collect.specs.declared.progress.Stage.TheVariants.{Sweeping}
use Rattle.af_collect.specs.declared.store.Store.TheInside.{Inside as StoreInside}
use Rattle.af_collect.proofs.PassChanges.{kept_swept, kept_swept_marked, swept_garbage}
use Rattle.af_collect.proofs.EmptiedSockets.{purged_none, purged_one}
use Rattle.af_collect.proofs.store.Store.sweep.Goals as goal

-- The invariant for a world in which all files up to this number are swept, and one file more was
-- looked at.
abbrev AreSwept : StoreInside → World → ℕ → Type 0
AreSwept p w x = PassInvariant w p.begun.value.world p.holdings.marks (record p.progress { swept = x + 1; looked = p.progress.looked + 1 })

-- The file is the next to be swept.
abbrev IsNext : ℕ → StoreView → Type 0
IsNext x t = (t.progress.stage ≡ Sweeping) × IsFirstFrom t.progress.swept t.world t.marks x

-- A marked file stays as it is.
pub invariant_of-self : goal.invariant_of-self
invariant_of-self c =
    let p = c.self-2.inside in
    let x = c.args.file.now in
    let r = subst (IsNext x) (sym c.self-2.view_is) (c.requires.sweeping, c.requires.first) in
    let marked = ap (λ (m : MarksView). is_marked m x) (sym c.files.ensures.marks) ∙ sym c.is_marked.ensures ∙ c.if-is_marked.true in
    subst (AreSwept p p.holdings.world) (sym c.ino.ensures ∙ sym c.self.view_is)
    (kept_swept_marked p.holdings.marks p.progress x r.0 r.1.0 r.1.1.0 r.1.1.1 r.1.2 marked c.self-2.invariant)

-- So nothing is purged.
pub returns-then-is_marked-clause-purged : goal.returns-then-is_marked-clause-purged
returns-then-is_marked-clause-purged c = subst (λ (t : StoreView). ArePurged c.args.self.now.begun c.args.self.now.world t.world 1) (sym c.self-2.view_is) (purged_none c.args.self.now.world 1 c.requires.sound.settled)

-- Another is emptied.
pub invariant_of-self-2 : goal.invariant_of-self-2
invariant_of-self-2 c =
    let p = c.self-2.inside in
    let x = c.args.file.now in
    let r = subst (IsNext x) (sym c.self-2.view_is) (c.requires.sweeping, c.requires.first) in
    let k = kept_swept p.holdings.marks p.progress x r.0 r.1.0 r.1.1.0 r.1.1.1 r.1.2 c.self-2.invariant in
    let past = subst (AreSwept p (emptied (nat_eq x) p.holdings.world)) (sym c.ino.ensures ∙ sym c.self.view_is) k in
    subst (λ (s : HoldingsView). PassInvariant s.world p.begun.value.world s.marks (record p.progress { swept = c.self.inside.0 + 1; looked = p.progress.looked + 1 })) (sym c.empty.ensures) past

-- It is garbage of the begin, and the files that are then unheld are freed.
pub returns-clause-purged : goal.returns-clause-purged
returns-clause-purged c =
    let p = c.self-2.inside in
    let x = c.args.file.now in
    let r = subst (IsNext x) (sym c.self-2.view_is) (c.requires.sweeping, c.requires.first) in
    let last = c.free_unreferenced.new.self.world in
    let unmarked = ap (λ (m : MarksView). is_marked m x) (sym c.files.ensures.marks) ∙ sym c.is_marked.ensures ∙ c.if-is_marked.false in
    subst (λ (t : StoreView). ArePurged t.begun t.world last 1) c.self-2.view_is
    (purged_one p.holdings.world last x (swept_garbage p.holdings.marks p.progress x r.0 r.1.0 r.1.1.1 unmarked c.self-2.invariant)
    (subst (λ s. Settles s.world last) c.empty.ensures c.free_unreferenced.ensures.settles))
