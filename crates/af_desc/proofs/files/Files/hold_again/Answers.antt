use Rattle.std.proofs.Common.{◌<◌, arith, refl, subst, sym}
use Rattle.std.specs.Prelude.{vec_capacity}
use Rattle.af_base.proofs.Lookups.{told_apart}
use Rattle.af_ledger.specs.Counted.{places_in}
use Rattle.af_ledger.specs.Tally.{count_in_map}
use Rattle.af_ledger.proofs.Unreferenced.{raised-kept}
use Rattle.af_desc.specs.FilesView.{FilesView}
use Rattle.af_desc.proofs.FilesInvariant.{counted-more, filed-counted}
use Rattle.af_desc.proofs.files.Files.hold_again.Goals as goal

pub invariant_of-self : goal.invariant_of-self
invariant_of-self c =
    let a = c.self.inside in
    let one = c.add_ref.ensures in
    let held = subst (λ (v : FilesView). 0 < places_in (count_in_map v.counts c.args.file.now)) (sym c.self.view_is) c.requires.held in
    let kept = c.self.invariant in
    let file = c.args.file.now in
    let place = c.args.place.now in
    let list = a.unreferenced in
    let some = told_apart _ 0 (λ e. omega (arith, e, held)) in
    let stays = raised-kept a.rows.counts _ list.items file kept.unreferenced_listed place refl some in
    let more = counted-more a.rows.counts file place a.embryos _ c.more_embryos-self-inside.ensures kept.backlogged in
    filed-counted a.rows _ _ _ _ _ _ _ _ kept _ list.items (vec_capacity list) one.counts stays one.len (omega arith) _ more
