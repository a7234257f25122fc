use Rattle.std.proofs.Common.{◌≡◌, ◌<◌, ℕ, true, arith, subst}
use Rattle.std.proofs.lemmas.Bool.{eqb-true}
use Rattle.af_mark.specs.Grey.{colors_in}
use Rattle.af_mark.specs.MarksView.{is_marked, knows}
use Rattle.af_mark.proofs.Whites.{none-white}
use Rattle.af_desc.specs.FilesView.{FilesView}
use Rattle.af_desc.proofs.files.Files.are_marked.Goals as goal

pub returns : goal.returns
returns c = λ e.
    let a = c.self.inside in
    let few = c.self.invariant.whites.1 in
    subst (λ (v : FilesView). (f : ℕ) → knows v.marks f ≡ true → f < v.marks.bound → is_marked v.marks f ≡ true) c.self.view_is
    (none-white (record { colors = colors_in a.epoch a.rows.marks; bound = a.bound }) (omega (arith, few, eqb-true a.white 0 e)))
