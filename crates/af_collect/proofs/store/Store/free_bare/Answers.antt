use Rattle.std.proofs.Common.{◌≡◌, ◌∙◌, [], sym, subst, nat_eq}
use Rattle.af_base.specs.Counts.{refs}
use Rattle.af_base.specs.Places.{held_by}
use Rattle.af_base.specs.Unheld.{without}
use Rattle.af_base.specs.World.{IsLive}
use Rattle.af_base.proofs.PlacesAndCounts.{held_by_none}
use Rattle.af_collect.specs.HoldingsView.{HoldingsView}
use Rattle.af_mark.specs.MarksView.{forgotten}
use Rattle.af_collect.specs.Keeping.{PassInvariant}
use Rattle.af_collect.proofs.PassChanges.{kept_gone}
use Rattle.af_collect.proofs.SparedFiles.{reclaimed_most, sweeping_only}
use Rattle.af_collect.specs.StoreView.{StoreView}
use Rattle.af_collect.proofs.VisiblePass.{counted_gone}
use Rattle.af_collect.proofs.store.Store.free_bare.Goals as goal

-- No more are counted than there can be files.
pub tally-requires : goal.tally-requires
tally-requires c = λ e. reclaimed_most (sweeping_only c.self.inside.progress.stage e) c.self.invariant

-- The file had no place and held nothing.
pub invariant_of-self : goal.invariant_of-self
invariant_of-self c =
    let p = c.self.inside in
    let w = p.holdings.world in
    let m = p.holdings.marks in
    let begun = p.begun.value.world in
    let x = c.args.file.now in
    let e = c.free_bare-unmarked.ensures in
    let r = subst (λ (t : StoreView). IsLive t.world x × (refs t.world x ≡ 0) × (held_by t.world x ≡ [])) (sym c.self.view_is) (c.requires.live, c.requires.unheld, c.requires.bare) in
    let no = held_by_none w x r.1 in
    let gone = kept_gone w begun m p.progress x r.0 no.0 no.1 r.2 c.self.invariant in
    let counts = c.tally.ensures ∙ counted_gone w m p.progress x c.free_bare-unmarked.result (c.self.invariant.known x ∙ r.0) e.unmarked in
    subst (λ (s : HoldingsView). PassInvariant s.world begun s.marks c.tally.new.progress) (sym e.gone) (subst (PassInvariant (without (nat_eq x) w) begun (forgotten x m)) (sym counts) gone)
