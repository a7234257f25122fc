use Rattle.std.proofs.Common.{rules, ◌≡◌, ◌-◌, ◌∙◌, length, sym, ap, subst, arith}
use Rattle.std.specs.Prelude.{Some}
use Rattle.std.specs.FinMap as map
use Rattle.std.proofs.lemmas.Bool.{false≢true}
use Rattle.std.proofs.lemmas.List.{length_push}
use Rattle.ordered_slab.specs.OrderView.{OrderRowView}
use Rattle.ordered_slab.specs.Rows.{row_at, HasRow}
use Rattle.ordered_slab.specs.SlabValues.{keys_of}
use Rattle.ordered_slab.proofs.Rows.{pop_kept, pop_order, row_last}
use Rattle.ordered_slab.proofs.Searches.{read_here}
use Rattle.ordered_slab.proofs.order.Order.pop_dead.Goals as goal

pub invariant_of-self : goal.invariant_of-self
invariant_of-self g c = pop_order c.self.inside.packed c.self.inside.read c.self.inside.rows.items c.take_last.new.self.items c.take_last.result c.self.invariant.2 c.take_last.ensures.items (search (rules, arith)) c.self.inside.last.value c.self.invariant

pub returns-then-not-is_live-clause-kept : goal.returns-then-not-is_live-clause-kept
returns-then-not-is_live-clause-kept g c = λ q k at x.
    let rows = c.self.inside.rows.items in
    let long = ap length c.take_last.ensures.items ∙ length_push c.take_last.new.self.items c.take_last.result in
    let last : c.len-then-self-len.result - 1 ≡ length c.take_last.new.self.items = search (rules, arith) in
    let here = read_here rows (c.len-then-self-len.result - 1) c.index.result.now (omega (arith, long, last)) c.index.ensures in
    let is = here ∙ ap (row_at rows) last ∙ ap (λ xs. row_at xs (length c.take_last.new.self.items)) c.take_last.ensures.items ∙ row_last c.take_last.new.self.items c.take_last.result in
    pop_kept c.self.inside.packed c.self.inside.read c.self.inside.rows.items c.take_last.new.self.items c.take_last.result c.self.invariant.2 c.take_last.ensures.items (search (rules, arith)) (keys_of c.args.slab.now)
    (λ live. false≢true (sym c.if-not-is_live.true ∙ c.is_live.ensures.dead (ap (λ (r : OrderRowView). map.get (keys_of c.args.slab.now) r.ino) is ∙ live ∙ ap (λ (r : OrderRowView). Some r.key) (sym is))))
    q k at (subst (λ a. HasRow a.rows q k) (sym c.self.view_is) x)
