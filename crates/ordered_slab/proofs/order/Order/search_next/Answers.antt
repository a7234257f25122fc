use Rattle.std.proofs.Common.{inl, inr, take, drop, sym, ap, subst, ◌∙◌, arith}
use Rattle.std.specs.Prelude.{Option, Some, None, IfNone}
use Rattle.ordered_slab.specs.Rows.{Rise, HasRow}
use Rattle.ordered_slab.specs.SlabValues.{keys_of}
use Rattle.ordered_slab.proofs.Rows.{in_either, rest, rise_across, rise_left, rise_right}
use Rattle.ordered_slab.proofs.Searches.{nowhere}
use Rattle.ordered_slab.proofs.order.Order.search_next.Goals as goal

pub next_in-requires-clause-rise : goal.next_in-requires-clause-rise
next_in-requires-clause-rise g c =
    subst Rise (sym (ap (take c.self.inside.packed) c.deref.ensures.value)) (rise_left (take c.self.inside.packed c.self.inside.rows.items) (drop c.self.inside.read c.self.inside.rows.items) c.self.invariant.0)

pub returns-in-Some-clause-least : goal.returns-in-Some-clause-least
returns-in-Some-clause-least g c = λ q above before. nowhere (keys_of c.args.slab.now) q (λ k at.
    let packed = (take c.self.inside.packed c.self.inside.rows.items) in
    let unread = drop c.self.inside.read c.self.inside.rows.items in
    let x = subst (λ a. HasRow a.rows q k) (sym c.self.view_is) (c.requires.listed q k at) in
    let next = c.in-Some.ensures.live.2 in
    let here = subst (λ xs. HasRow xs c.in-Some.next.0 c.in-Some.ensures.live.0) (ap (take c.self.inside.packed) c.deref.ensures.value) next in
    elim (in_either packed unread q k x) [
      | inl a ↦ c.in-Some.ensures.least q k above before at (subst (λ xs. HasRow xs q k) (sym (ap (take c.self.inside.packed) c.deref.ensures.value)) a)
      | inr a ↦ let o = rise_across packed unread c.self.invariant.0 here.0 a.0 here.1 a.1 in omega (arith, o, before, ap (λ r. r.ino) here.2, ap (λ r. r.ino) a.2)
    ])

pub next_in-requires-2-clause-rise : goal.next_in-requires-2-clause-rise
next_in-requires-2-clause-rise g c =
    let unread = rest c.deref-2.result.now c.self.inside.read ∙ ap (drop c.self.inside.read) c.deref-2.ensures.value in
    subst Rise (sym unread) (rise_right (take c.self.inside.packed c.self.inside.rows.items) (drop c.self.inside.read c.self.inside.rows.items) c.self.invariant.0)

-- A fact holds if there is nothing, as it holds in any case.
if_none : {X P : Type 0} (o : Option X) → P → IfNone o P
if_none None p = p
if_none (Some x) p = tt

pub returns-in_err-file-clause-none : goal.returns-in_err-file-clause-none
returns-in_err-file-clause-none g c = if_none c.from_residual.result (λ q above. nowhere (keys_of c.args.slab.now) q (λ k at.
    let packed = (take c.self.inside.packed c.self.inside.rows.items) in
    let unread = drop c.self.inside.read c.self.inside.rows.items in
    let x = subst (λ a. HasRow a.rows q k) (sym c.self.view_is) (c.requires.listed q k at) in
    let left = rest c.deref-2.result.now c.self.inside.read ∙ ap (drop c.self.inside.read) c.deref-2.ensures.value in
    elim (in_either packed unread q k x) [
      | inl a ↦ c.in_default.ensures.none q k above at (subst (λ xs. HasRow xs q k) (sym (ap (take c.self.inside.packed) c.deref.ensures.value)) a)
      | inr a ↦ c.in_err-file.ensures.none q k above at (subst (λ xs. HasRow xs q k) (sym left) a)
    ]))

pub returns-clause-least : goal.returns-clause-least
returns-clause-least g c = λ q above before. nowhere (keys_of c.args.slab.now) q (λ k at.
    let packed = (take c.self.inside.packed c.self.inside.rows.items) in
    let unread = drop c.self.inside.read c.self.inside.rows.items in
    let x = subst (λ a. HasRow a.rows q k) (sym c.self.view_is) (c.requires.listed q k at) in
    let left = rest c.deref-2.result.now c.self.inside.read ∙ ap (drop c.self.inside.read) c.deref-2.ensures.value in
    elim (in_either packed unread q k x) [
      | inl a ↦ c.in_default.ensures.none q k above at (subst (λ xs. HasRow xs q k) (sym (ap (take c.self.inside.packed) c.deref.ensures.value)) a)
      | inr a ↦ c.in_ok-file.ensures.least q k above before at (subst (λ xs. HasRow xs q k) (sym left) a)
    ])
