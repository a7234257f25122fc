use Rattle.std.proofs.Common.{rules, ◌≡◌, ◌-◌, ◌∙◌, length, sym, ap, subst, arith}
use Rattle.std.specs.FinMap as map
use Rattle.std.proofs.lemmas.Bool.{eqb-true}
use Rattle.std.proofs.lemmas.List.{length_push}
use Rattle.af_base.proofs.Lookups.{none_some}
use Rattle.ordered_slab.specs.Rows.{row_at, HasRow, KeepsLive}
use Rattle.ordered_slab.specs.SlabValues.{keys_of}
use Rattle.ordered_slab.proofs.Rows.{ordered, pop_kept, pop_order, row_last}
use Rattle.ordered_slab.proofs.Searches.{read_here}
use Rattle.ordered_slab.proofs.order.Order.trim.Goals as goal

-- Its number has no value, so each live row stays.
kept : {g : _} (c : goal.After-pop_dead g) → KeepsLive (keys_of c.args.slab.now) (ordered c.self.inside.packed c.self.inside.read c.self.inside.rows.items) (ordered c.self.inside.packed c.self.inside.read c.take_last.new.self.items)
kept c =
    let rows = c.self.inside.rows.items in
    let long = ap length c.take_last.ensures.items ∙ length_push c.take_last.new.self.items c.take_last.result in
    let last : c.len-then-self-len.result - 1 ≡ length c.take_last.new.self.items = search (rules, arith) in
    let here = read_here rows (c.len-then-self-len.result - 1) c.index.result.now (omega (arith, long, last)) c.index.ensures in
    let is = here ∙ ap (row_at rows) last ∙ ap (λ xs. row_at xs (length c.take_last.new.self.items)) c.take_last.ensures.items ∙ row_last c.take_last.new.self.items c.take_last.result in
    let number = ap (λ r. r.ino) (sym is) ∙ sym c.number.ensures.number ∙ eqb-true c.number.result c.ino.result (sym c.if-eq.ensures) ∙ c.ino.ensures in
    pop_kept c.self.inside.packed c.self.inside.read c.self.inside.rows.items c.take_last.new.self.items c.take_last.result c.self.invariant.2 c.take_last.ensures.items (search (rules, arith)) (keys_of c.args.slab.now)
    (λ live. none_some c.take_last.result.key (sym c.requires.gone ∙ ap (map.get (keys_of c.args.slab.now)) (sym number) ∙ live))

pub invariant_of-self : goal.invariant_of-self
invariant_of-self g c = pop_order c.self.inside.packed c.self.inside.read c.self.inside.rows.items c.take_last.new.self.items c.take_last.result c.self.invariant.2 c.take_last.ensures.items (search (rules, arith)) c.self.inside.last.value c.self.invariant

pub returns-then-eq-clause-kept : goal.returns-then-eq-clause-kept
returns-then-eq-clause-kept g c = λ q k at x.
    c.pop_dead.ensures.kept q k at (kept c q k at (subst (λ a. HasRow a.rows q k) (sym c.self.view_is) x))
