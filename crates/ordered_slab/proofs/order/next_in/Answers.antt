use Rattle.std.proofs.Common.{◌≡◌, ◌<◌, length, ◌∙◌, sym, ap, subst, arith}
use Rattle.std.specs.FinMap as map
use Rattle.ordered_slab.specs.Rows.{row_at}
use Rattle.ordered_slab.specs.SlabValues.{keys_of}
use Rattle.ordered_slab.proofs.Searches.{passed, read_here}
use Rattle.ordered_slab.proofs.order.next_in.Goals as goal

-- The position that the search found is before the end.
inside : {g : _} (c : goal.After-duplicate g) → c.first_live-at.result < length c.args.rows.now
inside c = let e = c.first_live-at.ensures.end in let n = c.if-at-rows.false in omega arith

-- The number that is returned is that of the row which the search found.
number : {g : _} (c : goal.After-duplicate g) → c.duplicate.result ≡ (row_at c.args.rows.now c.first_live-at.result).ino
number c = c.duplicate.ensures ∙ c.file.ensures ∙ ap (λ r. r.ino) (read_here c.args.rows.now c.first_live-at.result c.index-rows-at.result (inside c) c.index-rows-at.is)

pub returns-clause-above : goal.returns-clause-above
returns-clause-above g c =
    let above = c.rows_up_to-from.ensures.beyond c.first_live-at.result c.first_live-at.ensures.from (inside c) in
    subst (λ n. c.args.ino < n) (sym (number c)) above

pub returns-clause-live : goal.returns-clause-live
returns-clause-live g c =
    let row = row_at c.args.rows.now c.first_live-at.result in (
      row.key,
      ap (map.get (keys_of c.args.slab.now)) (number c) ∙ c.first_live-at.ensures.live (inside c),
      (c.first_live-at.result, inside c, (λ i. record { ino = sym (number c) i; key = row.key })),
    )

pub returns-clause-least : goal.returns-clause-least
returns-clause-least g c = λ q k above before live x.
    passed c.args.rows.now c.requires.rise (keys_of c.args.slab.now) c.args.ino c.rows_up_to-from.result c.first_live-at.result c.rows_up_to-from.ensures.up_to
    (λ j q k from end is. c.first_live-at.ensures.dead j q k from end is) q k above (λ _. subst (λ n. q < n) (number c) before) live x

pub returns-then-at-rows-clause-none : goal.returns-then-at-rows-clause-none
returns-then-at-rows-clause-none g c = λ q k above live x.
    passed c.args.rows.now c.requires.rise (keys_of c.args.slab.now) c.args.ino c.rows_up_to-from.result c.first_live-at.result c.rows_up_to-from.ensures.up_to
    (λ j q k from end is. c.first_live-at.ensures.dead j q k from end is) q k above (λ l. let e = c.if-at-rows.true in absurd (omega (arith, l, e))) live x
