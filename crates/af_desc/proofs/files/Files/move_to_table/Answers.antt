use Rattle.std.proofs.Common.{arith, refl, subst, sym}
use Rattle.std.specs.Prelude.{vec_capacity}
use Rattle.af_ledger.specs.Counted.{IsCounted}
use Rattle.af_ledger.specs.Tally.{count_in_map}
use Rattle.af_ledger.proofs.Unreferenced.{moved-kept}
use Rattle.af_desc.specs.FilesView.{FilesView}
use Rattle.af_desc.proofs.FilesInvariant.{counted-moved, filed-counted}
use Rattle.af_desc.proofs.files.Files.move_to_table.Goals as goal

pub invariant_of-self : goal.invariant_of-self
invariant_of-self c =
    let a = c.self.inside in
    let k = c.args.file.now in
    let p = c.args.from.now in
    let one = c.move_to_table.ensures in
    let counted = subst (λ (v : FilesView). IsCounted p (count_in_map v.counts k)) (sym c.self.view_is) c.requires.counted in
    let kept = c.self.invariant in
    let list = a.unreferenced in
    let stays = moved-kept a.rows.counts _ list.items k kept.unreferenced_listed p refl counted in
    let moved = counted-moved a.rows.counts k p a.embryos _ c.fewer_embryos-self-inside.ensures counted kept.backlogged in
    filed-counted a.rows _ _ _ _ _ _ _ _ kept _ list.items (vec_capacity list) one.counts stays one.len (omega arith) _ moved
