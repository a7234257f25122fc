use Rattle.std.proofs.Common.{◌≡◌, ◌+◌, ◌<◌, ◌∙◌, length, set, ap, sym, subst, arith}
use Rattle.std.specs.Prelude.{Some}
use Rattle.std.specs.FinMap as map
use Rattle.ordered_slab.specs.OrderView.{OrderRowView}
use Rattle.ordered_slab.specs.Rows.{row_at, HasRow}
use Rattle.ordered_slab.specs.SlabValues.{keys_of}
use Rattle.ordered_slab.proofs.Rows.{IsOrder, none_row, ordered, read_kept, read_order}
use Rattle.ordered_slab.proofs.order.Order.pack_row.Goals as goal

-- A row is left,
some : {g : _} (c : goal.After-self-3-1 g) → c.self.inside.read < length c.self.inside.rows.items
some c = omega (arith, c.in-Some.ensures.lookup.3.0, ap length c.deref.ensures.value)

-- and it is this one.
next : {g : _} (c : goal.After-self-3-1 g) → c.in-Some.row.now ≡ row_at c.self.inside.rows.items c.self.inside.read
next c = c.in-Some.ensures.lookup.3.1 none_row ∙ ap (λ xs. row_at xs c.self.inside.read) c.deref.ensures.value

pub invariant_of-self : goal.invariant_of-self
invariant_of-self g c =
    subst (λ r. IsOrder c.self.inside.last.value (c.self.inside.packed + c.from.result) (c.self.inside.read + 1) (set c.self.inside.rows.items c.self.inside.packed r)) (sym (c.duplicate.ensures ∙ next c))
    (read_order c.self.inside.packed c.self.inside.read c.self.inside.rows.items c.self.invariant.2 (some c) c.is_live-live.result c.from.result c.self.inside.last.value c.from.ensures c.self.invariant)

pub returns-clause-kept : goal.returns-clause-kept
returns-clause-kept g c = λ q k at x.
    subst (λ r. HasRow (ordered (c.self.inside.packed + c.from.result) (c.self.inside.read + 1) (set c.self.inside.rows.items c.self.inside.packed r)) q k) (sym (c.duplicate.ensures ∙ next c))
    (read_kept c.self.inside.packed c.self.inside.read c.self.inside.rows.items c.self.invariant.2 (some c) c.is_live-live.result c.from.result (keys_of c.args.slab.now) c.from.ensures
    (λ live. c.is_live-live.ensures.dead (subst (λ (r : OrderRowView). map.get (keys_of c.args.slab.now) r.ino ≡ Some r.key) (sym (next c)) live))
    q k at (subst (λ a. HasRow a.rows q k) (sym c.self.view_is) x))
