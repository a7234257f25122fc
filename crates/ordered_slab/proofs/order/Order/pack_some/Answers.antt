use Rattle.std.proofs.Common.{rules, ◌≡◌, ◌≤◌, ◌++◌, ◌∙◌, length, take, sym, ap, subst, arith}
use Rattle.std.proofs.lemmas.List.{append-nil, drop_all}
use Rattle.ordered_slab.specs.Rows.{AllUpTo, HasRow, Rise}
use Rattle.ordered_slab.proofs.Rows.{ordered}
use Rattle.ordered_slab.proofs.order.Order.pack_some.Goals as goal

-- All rows were read: the packed ones are left.
left : {g : _} (c : goal.After-self-then-self-len-1 g) → ordered c.self.inside.packed c.self.inside.read c.self.inside.rows.items ≡ c.truncate.new.self.items
left c =
    let rows = c.self.inside.rows.items in
    let all : length rows ≤ c.self.inside.read = search (rules, arith) in
    ap (λ xs. take c.self.inside.packed rows ++ xs) (drop_all c.self.inside.read rows all) ∙ append-nil (take c.self.inside.packed rows) ∙ sym c.truncate.ensures.items

pub invariant_of-self : goal.invariant_of-self
invariant_of-self g c = (subst Rise (left c) c.self.invariant.0, subst (AllUpTo c.self.inside.last.value) (left c) c.self.invariant.1, omega arith, omega arith)

pub returns-then-self-len-clause-kept : goal.returns-then-self-len-clause-kept
returns-then-self-len-clause-kept g c = λ q k at x.
    subst (λ xs. HasRow xs q k) (left c) (subst (λ a. HasRow a.rows q k) (sym c.self.view_is) (c.loop.invariant.0 q k at x))
