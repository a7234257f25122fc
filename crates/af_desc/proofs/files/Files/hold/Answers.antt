use Rattle.std.proofs.Common.{rules, arith, refl, sym, ◌∙◌}
use Rattle.std.specs.Prelude.{vec_capacity}
use Rattle.af_ledger.proofs.Unreferenced.{raised-kept, raised-off}
use Rattle.af_desc.proofs.FilesInvariant.{counted-more, filed-counted}
use Rattle.af_desc.proofs.files.Files.hold.Goals as goal

pub invariant_of-self : goal.invariant_of-self
invariant_of-self c =
    let a = c.self.inside in
    let kept = c.self.invariant in
    let one = c.add_ref-first.ensures in
    let file = c.args.file.now in
    let place = c.args.place.now in
    let left = c.swap_remove_file.new.files in
    let more = counted-more a.rows.counts file place a.embryos _ c.more_embryos-self-inside.ensures kept.backlogged in
    let off = raised-off a.rows.counts _ a.unreferenced.items file kept.unreferenced_listed place refl left.items (search rules) in
    let fits = c.swap_remove_file.ensures.capacity in
    filed-counted a.rows _ _ _ _ _ _ _ _ kept _ left.items (vec_capacity left) one.counts off one.len (omega (arith, fits)) _ more

pub invariant_of-self-else-first : goal.invariant_of-self-else-first
invariant_of-self-else-first c =
    let a = c.self.inside in
    let kept = c.self.invariant in
    let one = c.add_ref-first.ensures in
    let file = c.args.file.now in
    let place = c.args.place.now in
    let list = a.unreferenced in
    let more = counted-more a.rows.counts file place a.embryos _ c.more_embryos-self-inside.ensures kept.backlogged in
    let some = sym one.first ∙ c.if-first.false in
    let stays = raised-kept a.rows.counts _ list.items file kept.unreferenced_listed place refl some in
    filed-counted a.rows _ _ _ _ _ _ _ _ kept _ list.items (vec_capacity list) one.counts stays one.len (omega arith) _ more
