use Rattle.std.proofs.Common.{rules, ◌≡◌, ◌≤◌, ◌<◌, ◌-◌, ℕ, List, length, ap, arith}
use Rattle.ordered_slab.specs.OrderView.{OrderRowView}
use Rattle.ordered_slab.specs.Rows.{row_at, Rise}
use Rattle.ordered_slab.proofs.Searches.{climb, read_here}
use Rattle.ordered_slab.proofs.order.is_between.Goals.{else-at-gt0-via-then-at-gt0+else-lt, else-at-gt0-via-else-at-gt0}
use Rattle.ordered_slab.proofs.order.is_between.Goals as goal

-- The rows before a position are up to n, if the one right before it is.
low : (rows : List OrderRowView) → Rise rows → (n at : ℕ) (r : OrderRowView) → at ≤ length rows → r ≡ row_at rows (at - 1) → r.ino ≤ n → (i : ℕ) → i < at → (row_at rows i).ino ≤ n
low rows rise n at r end is le i before =
    let o = climb rows rise n i (at - 1) (omega (arith, before)) (omega (arith, before, end)) in
    let e = ap (λ r. r.ino) is in omega (arith, o, e, le)

pub returns-then-at-rows-2-clause-up_to : goal.returns-then-at-rows-2-clause-up_to
returns-then-at-rows-2-clause-up_to c = λ same i before. elim c.else-at-gt0.branch [
  | else-at-gt0-via-then-at-gt0+else-lt w ↦
      let end : c.args.at ≤ length c.args.rows.now = search (rules, arith) in
      let le : w.index-rows-at.result.ino ≤ c.args.ino = search (rules, arith) in
      low c.args.rows.now c.requires c.args.ino c.args.at w.index-rows-at.result end (read_here c.args.rows.now (c.args.at - 1) w.index-rows-at.result (omega (arith, before, end)) w.index-rows-at.is) le i before
  | else-at-gt0-via-else-at-gt0 w ↦ let none = w.if-at-gt0.false in absurd (omega (arith, none, before))
]

pub returns-else-at-rows-2-clause-up_to : goal.returns-else-at-rows-2-clause-up_to
returns-else-at-rows-2-clause-up_to c = λ above i before. elim c.else-at-gt0.branch [
  | else-at-gt0-via-then-at-gt0+else-lt w ↦
      let end : c.args.at ≤ length c.args.rows.now = search (rules, arith) in
      let le : w.index-rows-at.result.ino ≤ c.args.ino = search (rules, arith) in
      low c.args.rows.now c.requires c.args.ino c.args.at w.index-rows-at.result end (read_here c.args.rows.now (c.args.at - 1) w.index-rows-at.result (omega (arith, before, end)) w.index-rows-at.is) le i before
  | else-at-gt0-via-else-at-gt0 w ↦ let none = w.if-at-gt0.false in absurd (omega (arith, none, before))
]
