use Rattle.std.proofs.Common.{◌≤◌, take, drop, inl, inr, length-take, sym, ap, subst, ◌∙◌, arith}
use Rattle.std.proofs.lemmas.Bool.{cases_lt, eqb-true}
use Rattle.ordered_slab.specs.Rows.{row_at, Rise, HasRow}
use Rattle.ordered_slab.proofs.Rows.{in_either, none_row, rise_right}
use Rattle.ordered_slab.proofs.Searches.{climb}
use Rattle.ordered_slab.proofs.order.Order.next_at.Goals.{then-number-ino, else-number-ino+then-self-eq0, else-number-ino+else-self-eq0}
use Rattle.ordered_slab.proofs.order.Order.next_at.Goals as goal

pub is_between-requires : goal.is_between-requires
is_between-requires c =
    let rise = rise_right (take c.self.inside.packed c.self.inside.rows.items) (drop c.self.inside.read c.self.inside.rows.items) c.self.invariant.0 in
    let all = subst (λ n. Rise (drop n c.self.inside.rows.items)) c.if-self-eq0.true rise in
    subst Rise (sym c.deref-then-self-eq0.ensures.value) all

pub returns-then-is_between-clause-least : goal.returns-then-is_between-clause-least
returns-then-is_between-clause-least c = λ q k x above. elim c.if-number-ino.branch [
  | then-number-ino w ↦ omega (arith, w.if-number-ino.true, c.number-2.view_is, c.ino.view_is, c.number.ensures.number, above)
  | else-number-ino+then-self-eq0 w ↦
      let rows = c.self.inside.rows.items in
      let is_so = sym w.value-is ∙ c.if-is_between.true in
      let got = c.in_ok-row.ensures.lookup in
      let here = ap (λ r. r.ino) (got.3.1 none_row) ∙ ap (λ xs. (row_at xs c.args.at).ino) c.deref.ensures.value in
      let rise = subst (λ n. Rise (drop n rows)) w.if-self-eq0.true (rise_right (take c.self.inside.packed c.self.inside.rows.items) (drop c.self.inside.read rows) c.self.invariant.0) in
      elim (in_either (take c.self.inside.packed c.self.inside.rows.items) (drop c.self.inside.read rows) q k (subst (λ a. HasRow a.rows q k) (sym c.self.view_is) x)) [
        | inl a ↦ let long = length-take c.self.inside.packed rows in let few = c.self.invariant.2 in absurd (omega (arith, a.1, long, few, w.if-self-eq0.true))
        | inr a ↦
            let b = subst (λ n. HasRow (drop n rows) q k) w.if-self-eq0.true a in
            elim (cases_lt b.0 c.args.at) [
              | inl l ↦
                  let low = w.is_between.ensures.up_to is_so b.0 l in
                  let up = subst (λ xs. (row_at xs b.0).ino ≤ c.args.ino) w.deref-then-self-eq0.ensures.value low in
                  absurd (omega (arith, up, above, ap (λ r. r.ino) b.2))
              | inr l ↦ let o = climb rows rise q c.args.at b.0 l b.1 in omega (arith, o, here, ap (λ r. r.ino) b.2)
            ]
      ]
  | else-number-ino+else-self-eq0 w ↦ absurd (w.if-self-eq0.false (eqb-true c.self.inside.read 0 (sym w.value-is ∙ c.if-is_between.true)))
]

pub returns-then-is_between-clause-position : goal.returns-then-is_between-clause-position
returns-then-is_between-clause-position c = λ _. let got = c.in_ok-row.ensures.lookup in let few = c.deref.type_inv.1 in omega (arith, got.3.0, few)
