use Rattle.std.proofs.Common.{rules, sym, ap, ◌∙◌, arith}
use Rattle.std.specs.Prelude.{vec_capacity}
use Rattle.std.specs.FinMap as map
use Rattle.af_mark.proofs.Colors.{color_known}
use Rattle.af_desc.proofs.FilesInvariant.{filed-renewed, white-begun}
use Rattle.af_desc.proofs.files.Files.start_epoch.Goals as goal

pub returns-clause-known : goal.returns-clause-known
returns-clause-known c = λ f.
    color_known _ c.next_epoch-self-inside.new.rows.marks f ∙ c.next_epoch-self-inside.ensures.known f
    ∙ sym (color_known c.self.inside.epoch c.self.inside.rows.marks f) ∙ ap (λ v. map.contains_key v.marks.colors f) c.self.view_is

pub invariant_of-self : goal.invariant_of-self
invariant_of-self c =
    let a = c.self.inside in
    let n = c.next_epoch-self-inside in
    filed-renewed a.rows n.new.rows _ _ _ _ _ _ _ c.self.invariant n.new.rows.marks n.result a.next c.clear.new.self.items (vec_capacity c.clear.new.self) n.ensures.rest (search rules) (omega (arith, c.clear.ensures.capacity)) _ (white-begun n.new.rows.marks n.result a.next _ c.len-self-inside.ensures.marks)
