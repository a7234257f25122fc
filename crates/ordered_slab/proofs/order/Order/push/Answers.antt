use Rattle.std.proofs.Common.{◌<◌, ◌++◌, [], ◌∷◌, ◌∙◌, sym, ap, subst}
use Rattle.ordered_slab.specs.Rows.{HasRow}
use Rattle.ordered_slab.proofs.Rows.{IsOrder, above_none, grown, ordered, push_order}
use Rattle.ordered_slab.proofs.order.Order.push.Goals as goal

pub invariant_of-self : goal.invariant_of-self
invariant_of-self c =
    let above = subst (λ a. a.last < c.args.ino) (sym c.self.view_is) c.requires.above in
    let its = subst (λ n. c.self.inside.last.value < n) (ap (λ r. r.ino) (sym c.new.ensures)) above in
    let is = push_order c.self.inside.packed c.self.inside.read c.self.inside.rows.items c.new.result c.self.inside.last.value c.self.invariant its in
    subst (λ xs. IsOrder c.of.result.value c.self.inside.packed c.self.inside.read xs) (sym c.push_reserved.ensures.items)
    (subst (λ n. IsOrder n c.self.inside.packed c.self.inside.read (c.self.inside.rows.items ++ c.new.result ∷ [])) (ap (λ r. r.ino) c.new.ensures ∙ sym c.of.ensures) is)

pub returns-clause-rows : goal.returns-clause-rows
returns-clause-rows c =
    ap (ordered c.self.inside.packed c.self.inside.read) c.push_reserved.ensures.items ∙ grown c.self.inside.packed c.self.inside.read c.self.inside.rows.items c.new.result c.self.invariant.2 c.self.invariant.3
    ∙ ap (λ r. ordered c.self.inside.packed c.self.inside.read c.self.inside.rows.items ++ r ∷ []) c.new.ensures ∙ ap (λ a. a.rows ++ record { ino = c.args.ino; key = c.args.key } ∷ []) c.self.view_is

pub returns-clause-new : goal.returns-clause-new
returns-clause-new c = λ k x.
    let above = subst (λ a. a.last < c.args.ino) (sym c.self.view_is) c.requires.above in
    above_none (ordered c.self.inside.packed c.self.inside.read c.self.inside.rows.items) c.self.inside.last.value c.args.ino k c.self.invariant.1 above (subst (λ a. HasRow a.rows c.args.ino k) (sym c.self.view_is) x)
