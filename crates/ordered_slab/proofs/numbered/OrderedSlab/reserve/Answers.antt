use Rattle.std.proofs.Common.{◌≡◌, ◌≤◌, ◌-◌, count_by, sym, ap, subst, ◌∙◌, arith}
use Rattle.std.specs.Prelude.{is_some, min}
use Rattle.slab.specs.Slab.{slab_len}
use Rattle.ordered_slab.specs.OrderedSlabView.{OrderedSlabView}
use Rattle.ordered_slab.specs.Rows.{AreListed}
use Rattle.ordered_slab.specs.SlabValues.{AreInPlace, keys_of, values_of}
use Rattle.ordered_slab.proofs.SlabValues.{grown_in_place, keys_grown, values_grown}
use Rattle.ordered_slab.proofs.numbered.OrderedSlab.reserve.Goals as goal

pub invariant_of-self : goal.invariant_of-self
invariant_of-self g c =
    let s = c.self.inside.slab in
    let t = c.reserve.new.slab in
    let slots = ap (λ a. a.slots) c.reserve.ensures.slab in
    let keys = sym (keys_grown s t slots) in
    let rows = sym (ap (λ o. o.rows) c.reserve.ensures.order) in
    let fits = c.self.invariant.2 in
    let more = c.reserve.ensures.capacity in (
      subst (λ m. AreInPlace m t) keys (grown_in_place (keys_of s) s t slots c.self.invariant.0),
      subst (AreListed _) keys (subst (λ rows. AreListed rows (keys_of s)) rows c.self.invariant.1),
      subst (λ n. n ≤ t.capacity) (sym (ap (count_by is_some) slots)) (omega (arith, fits, more)),
    )

pub returns-clause-same : goal.returns-clause-same
returns-clause-same g c =
    let s = c.self.inside.slab in
    let t = c.reserve.new.slab in
    let slots = ap (λ a. a.slots) c.reserve.ensures.slab in
    let room = min c.reserve.new.order.room (t.capacity - slab_len t) in
    let values : values_of (keys_of t) t ≡ values_of (keys_of s) s = ap (λ m. values_of m t) (keys_grown s t slots) ∙ values_grown (keys_of s) s t slots in
    let last : c.reserve.new.order.last ≡ c.self.inside.order.last = ap (λ o. o.last) c.reserve.ensures.order in
    (λ i. record {
      values = values i;
      last = last i;
      room = room;
    }) ∙ ap (λ (a : OrderedSlabView _). record a { room = room }) c.self.view_is

pub returns-clause-succeeds : goal.returns-clause-succeeds
returns-clause-succeeds g c = λ few.
    let o = c.self.inside.order in
    let s = c.self.inside.slab in
    let room : c.args.values ≤ min o.room (s.capacity - slab_len s) = subst (λ a. c.args.values ≤ a.room) (sym c.self.view_is) few in
    let fits = c.self.invariant.2 in
    c.reserve.ensures.succeeds (omega (arith, room)) (omega (arith, room, fits))
