use Rattle.std.proofs.Common.{◌≡◌, ℕ, Bool, true, false, sym, ap, ◌∙◌, cond}
use Rattle.std.specs.Prelude.{option_copied, option_map}
use Rattle.std.specs.FinMap as map
use Rattle.std.specs.Option.{option_map_or}
use Rattle.af_mark.specs.Grey.{color_in}
use Rattle.af_mark.specs.MarksView.{blackened, is_grey, is_grey_color}
use Rattle.af_mark.specs.declared.color.Color.TheVariants.{Black}
use Rattle.af_mark.proofs.Colors.{color_get}
use Rattle.af_desc.specs.FilesView.{FilesView}
use Rattle.af_desc.proofs.files.Files.blacken.Goals as goal

-- The file stays as it is, or is black, by whether it was grey.
black : (v : FilesView) (f : ℕ) (b : Bool) → is_grey v.marks f ≡ b → record v { marks = cond b (record v.marks { colors = map.insert v.marks.colors f Black }) v.marks } ≡ record v { marks = blackened f v.marks }
black v f b is = ap (λ d. record v { marks = cond d (record v.marks { colors = map.insert v.marks.colors f Black }) v.marks }) (sym is)

pub take_grey-requires : goal.take_grey-requires
take_grey-requires c =
    let e = c.self.inside.epoch in
    let f = c.args.file.now in
    let some = c.in-Some-mark.is in
    ap (λ v. is_grey v.marks f) (sym c.self.view_is) ∙ ap (λ o. option_map_or is_grey_color o false) (color_get e c.self.inside.rows.marks f ∙ ap (option_map (color_in _)) (sym c.mark.ensures ∙ ap option_copied some)) ∙ sym c.is_grey_in.ensures ∙ c.if-is_grey_in.true

pub returns-then-is_grey_in : goal.returns-then-is_grey_in
returns-then-is_grey_in c =
    let e = c.self.inside.epoch in
    let f = c.args.file.now in
    let some = c.in-Some-mark.is in
    let grey = ap (λ v. is_grey v.marks f) (sym c.self.view_is) ∙ ap (λ o. option_map_or is_grey_color o false) (color_get e c.self.inside.rows.marks f ∙ ap (option_map (color_in _)) (sym c.mark.ensures ∙ ap option_copied some)) ∙ sym c.is_grey_in.ensures ∙ c.if-is_grey_in.true in
    c.take_grey.ensures.rest ∙ ap (λ m. record c.args.self.now { marks = m }) c.take_grey.ensures.colors ∙ black c.args.self.now f true grey

pub returns-else-is_grey_in : goal.returns-else-is_grey_in
returns-else-is_grey_in c =
    let e = c.self.inside.epoch in
    let f = c.args.file.now in
    let some = c.in-Some-mark.is in
    black c.args.self.now f false (ap (λ v. is_grey v.marks f) (sym c.self.view_is) ∙ ap (λ o. option_map_or is_grey_color o false) (color_get e c.self.inside.rows.marks f ∙ ap (option_map (color_in _)) (sym c.mark.ensures ∙ ap option_copied some)) ∙ sym c.is_grey_in.ensures ∙ c.if-is_grey_in.false)

pub returns-in_default-mark : goal.returns-in_default-mark
returns-in_default-mark c =
    let e = c.self.inside.epoch in
    let f = c.args.file.now in
    let none = c.in_default-mark.is in
    black c.args.self.now f false (ap (λ v. is_grey v.marks f) (sym c.self.view_is) ∙ ap (λ o. option_map_or is_grey_color o false) (color_get e c.self.inside.rows.marks f ∙ ap (option_map (color_in _)) (sym c.mark.ensures ∙ ap option_copied none)))
