use Rattle.std.proofs.Common.{rules, ◌≡◌, ◌++◌, ◌∷◌, [], arith, refl, sym, ap, ◌∙◌, subst}
use Rattle.std.specs.Prelude.{vec_capacity}
use Rattle.af_ledger.specs.Counted.{IsCounted}
use Rattle.af_ledger.specs.Tally.{AreUnreferenced, count_in_map}
use Rattle.af_ledger.proofs.Unreferenced.{lowered-kept, lowered-pushed}
use Rattle.af_desc.specs.FilesView.{FilesView}
use Rattle.af_desc.proofs.FilesInvariant.{counted-fewer, filed-counted}
use Rattle.af_desc.proofs.files.Files.drop_one.Goals as goal

pub push_reserved-requires : goal.push_reserved-requires
push_reserved-requires c =
    let a = c.self.inside in
    let counted = subst (λ (v : FilesView). IsCounted c.args.place.now (count_in_map v.counts c.args.file.now)) (sym c.self.view_is) c.requires in
    let one = c.drop_ref-last.ensures in
    let low = (lowered-pushed a.rows.counts _ a.unreferenced.items c.args.file.now c.self.invariant.unreferenced_listed c.args.place.now (ap (λ r. r.counts) one.counts) counted (sym one.last ∙ c.if-last.true)).1 in
    omega (arith, low, c.self.invariant.fits, one.len, a.unreferenced.ok.0)

pub invariant_of-self : goal.invariant_of-self
invariant_of-self c =
    let a = c.self.inside in
    let counted = subst (λ (v : FilesView). IsCounted c.args.place.now (count_in_map v.counts c.args.file.now)) (sym c.self.view_is) c.requires in
    let one = c.drop_ref-last.ensures in
    let kept = c.self.invariant in
    let file = c.args.file.now in
    let place = c.args.place.now in
    let list = c.push_reserved.new.self in
    let pushed = (lowered-pushed a.rows.counts _ a.unreferenced.items file kept.unreferenced_listed place refl counted (sym one.last ∙ c.if-last.true)).0 in
    let items : list.items ≡ a.unreferenced.items ++ file ∷ [] = search rules in
    let on = subst (AreUnreferenced _) (sym items) pushed in
    let fits = c.push_reserved.ensures.capacity in
    let fewer = counted-fewer a.rows.counts file place a.embryos _ c.fewer_embryos-self-inside.ensures counted kept.backlogged in
    filed-counted a.rows _ _ _ _ _ _ _ _ kept _ list.items (vec_capacity list) one.counts on one.len (omega (arith, fits)) _ fewer

pub invariant_of-self-else-last : goal.invariant_of-self-else-last
invariant_of-self-else-last c =
    let a = c.self.inside in
    let counted = subst (λ (v : FilesView). IsCounted c.args.place.now (count_in_map v.counts c.args.file.now)) (sym c.self.view_is) c.requires in
    let one = c.drop_ref-last.ensures in
    let kept = c.self.invariant in
    let file = c.args.file.now in
    let place = c.args.place.now in
    let list = a.unreferenced in
    let some = sym one.last ∙ c.if-last.false in
    let stays = lowered-kept a.rows.counts _ list.items file kept.unreferenced_listed place refl counted some in
    let fewer = counted-fewer a.rows.counts file place a.embryos _ c.fewer_embryos-self-inside.ensures counted kept.backlogged in
    filed-counted a.rows _ _ _ _ _ _ _ _ kept _ list.items (vec_capacity list) one.counts stays one.len (omega arith) _ fewer
