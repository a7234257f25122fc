use Rattle.std.proofs.Common.{rules, ◌≡◌, sym, ap, ◌∙◌}
use Rattle.std.specs.Prelude.{None, Some, option_copied, option_map}
use Rattle.std.specs.FinMap as map
use Rattle.af_mark.specs.Grey.{color_in}
use Rattle.af_mark.proofs.Colors.{color_get}
use Rattle.af_desc.proofs.files.Files.color.Goals as goal

pub returns-in_err-mark : goal.returns-in_err-mark
returns-in_err-mark c =
    let e = c.self.inside.epoch in
    let none : c.from_residual.result ≡ None = search rules in
    none ∙ sym (ap (λ v. map.get v.marks.colors c.args.file.now) (sym c.self.view_is) ∙ color_get e c.self.inside.rows.marks c.args.file.now ∙ ap (option_map (color_in _)) (sym c.mark.ensures ∙ ap option_copied c.in_err-mark.was))

pub returns : goal.returns
returns c =
    let e = c.self.inside.epoch in
    ap Some c.color_in.ensures ∙ sym (ap (λ v. map.get v.marks.colors c.args.file.now) (sym c.self.view_is) ∙ color_get e c.self.inside.rows.marks c.args.file.now ∙ ap (option_map (color_in _)) (sym c.mark.ensures ∙ ap option_copied c.in_ok-mark.was))
