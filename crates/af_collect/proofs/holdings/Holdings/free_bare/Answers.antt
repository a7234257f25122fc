use Rattle.std.proofs.Common.{◌≡◌, [], nat_eq, refl, sym, ap, ◌∙◌, subst}
use Rattle.std.specs.FinMap as map
use Rattle.std.specs.Option.{option_map_or}
use Rattle.af_base.specs.World.{IsLive}
use Rattle.af_base.specs.Places.{contents, held_by, queue_at, queue_of}
use Rattle.af_base.specs.Counts.{refs}
use Rattle.af_base.specs.Unheld.{without}
use Rattle.af_base.proofs.Lookups.{there}
use Rattle.af_ledger.specs.Tally.{kept_of}
use Rattle.af_mark.specs.MarksView.{forgotten}
use Rattle.af_collect.specs.HoldingsView.{AreExact, HoldingsView}
use Rattle.af_collect.specs.contracts.holdings.Holdings.{the_view}
use Rattle.af_collect.proofs.Exact.{exact-gone, exact-same}
use Rattle.af_collect.proofs.FreedFiles.{gone_end}
use Rattle.af_collect.proofs.holdings.Holdings.free_bare.Goals as goal

pub invariant_of-self : goal.invariant_of-self
invariant_of-self c =
    let w = (the_view c.self.inside).world in
    let f = c.args.file.now in
    let back = sym c.self.view_is in
    let x = there (map.get w.files f) (subst (λ (s : HoldingsView). IsLive s.world f) back c.requires.live) in
    let bare = sym (ap (λ o. option_map_or contents o []) x.1) ∙ subst (λ (s : HoldingsView). held_by s.world f ≡ []) back c.requires.bare in
    let silent = sym (ap (λ o. option_map_or queue_of o []) x.1) ∙ subst (λ (s : HoldingsView). queue_at s.world f ≡ []) back c.requires.silent in
    let none = subst (λ (s : HoldingsView). refs s.world f ≡ 0) back c.requires.unheld in
    subst (λ fs. AreExact c.self.inside.procs fs c.self.inside.ledger) (sym c.remove.ensures.gone) (exact-same _ _ _ _ (gone_end w f c.self.invariant.whole.peers) refl (exact-gone w f x.0 (kept_of c.self.inside.files.counts c.self.inside.ledger) x.1 bare silent none c.self.invariant))

pub returns-clause-gone : goal.returns-clause-gone
returns-clause-gone c =
    let h = c.self.inside in
    let f = c.args.file.now in
    ap (λ fs. the_view (record h { files = fs })) c.remove.ensures.gone
    ∙ ap (λ w. record (the_view h) { world = w; marks = forgotten f h.files.marks }) (gone_end (the_view h).world f c.self.invariant.whole.peers)
    ∙ ap (λ (s : HoldingsView). record s { world = without (nat_eq f) s.world; marks = forgotten f s.marks }) c.self.view_is
