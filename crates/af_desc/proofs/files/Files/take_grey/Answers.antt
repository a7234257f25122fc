use Rattle.std.proofs.Common.{rules, ◌≡◌, ◌-◌, ℕ, refl, sym, ap, ◌∙◌, arith}
use Rattle.std.specs.Prelude.{is_some, vec_capacity}
use Rattle.std.specs.FinMap as map
use Rattle.af_base.specs.Counts.{count_in, one}
use Rattle.af_mark.specs.Grey.{MarkView, black_mark}
use Rattle.af_mark.specs.MarksView.{is_grey}
use Rattle.af_mark.specs.declared.color.Color.TheVariants.{Black}
use Rattle.af_mark.proofs.Colors.{color_after, color_known, color_now, same_marked}
use Rattle.af_mark.proofs.GreyList.{grey-known, listed-black}
use Rattle.af_desc.specs.FileTableView.{FileTableView}
use Rattle.af_desc.proofs.FilesInvariant.{filed-marked, white-scanned}
use Rattle.af_desc.proofs.files.Files.take_grey.Goals as goal

pub set_mark-requires : goal.set_mark-requires
set_mark-requires c =
    sym (color_known c.self.inside.epoch c.self.inside.rows.marks c.args.file.now) ∙ ap (λ v. is_some (map.get v.marks.colors c.args.file.now)) c.self.view_is ∙ grey-known c.args.self.now.marks c.args.file.now c.requires

-- It is black, and not in the list.
pub invariant_of-self : goal.invariant_of-self
invariant_of-self c =
    let a = c.self.inside in
    let f = c.args.file.now in
    let x = black_mark a.epoch in
    let m = map.insert a.rows.marks f x in
    let gs = c.remove_listed.new.grey in
    let is = c.set_mark.ensures.set ∙ ap {A = MarkView} {B = FileTableView} (λ y. record a.rows { marks = map.insert a.rows.marks f y }) c.black.ensures in
    let e = c.remove_listed.ensures in
    let less : (g : ℕ) → count_in g gs.items ≡ count_in g a.grey.items - one g f = search rules in
    let many = sym (ap (λ (r : FileTableView). map.len r.marks) is) ∙ c.set_mark.ensures.len in
    let listed = listed-black a.rows.marks m a.epoch a.grey.items (vec_capacity a.grey) c.self.invariant.listed f x refl refl many gs.items (vec_capacity gs) refl less (omega (arith, e.capacity)) in
    filed-marked a.rows c.remove_listed.new.rows _ _ _ _ _ _ _ c.self.invariant m gs.items (vec_capacity gs) (e.rows ∙ is) listed (omega (arith, e.capacity)) _
    (white-scanned a.rows.marks m a.epoch a.bound a.next a.white c.self.invariant.whites f x refl (color_now a.epoch x refl) (ap (λ v. is_grey v.marks f) c.self.view_is ∙ c.requires))

pub returns-clause-colors : goal.returns-clause-colors
returns-clause-colors c =
    let a = c.self.inside in
    let f = c.args.file.now in
    let x = black_mark a.epoch in
    let is = ap (λ r. r.marks) (c.remove_listed.ensures.rows ∙ c.set_mark.ensures.set) ∙ ap (map.insert a.rows.marks f) c.black.ensures in
    same_marked _ _ (color_after a.epoch a.rows.marks c.remove_listed.new.rows.marks f x Black is (color_now a.epoch x refl) ∙ ap (λ v. map.insert v.marks.colors f Black) c.self.view_is)
    (ap (λ v. v.marks.bound) c.self.view_is)
