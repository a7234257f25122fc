use Rattle.std.proofs.Common.{rules, ◌≤◌, sym, ap, subst, ◌∙◌}
use Rattle.std.specs.Prelude.{Some}
use Rattle.std.specs.FinMap as map
use Rattle.std.proofs.lemmas.Bool.{false≢true}
use Rattle.std.proofs.lemmas.List.Sorted.{answers_always}
use Rattle.af_base.specs.declared.limits.TheConstants.{MAX_INO}
use Rattle.ordered_slab.specs.OrderView.{OrderRowView}
use Rattle.ordered_slab.specs.Rows.{HasRow}
use Rattle.ordered_slab.specs.SlabValues.{keys_of}
use Rattle.ordered_slab.proofs.Searches.{found, missed, only, read_here}
use Rattle.ordered_slab.proofs.order.key_in.Goals as goal

pub returns-then-is_live-clause-key : goal.returns-then-is_live-clause-key
returns-then-is_live-clause-key g c =
    let by_key = c.in-Ok.ensures.position (λ (row : OrderRowView). row.ino) (answers_always _ _ _ (λ f a r g called. search rules)) in
    let is = found c.args.rows.now c.requires.rise c.ino.inside.0 c.in-Ok.at by_key in
    let here = read_here c.args.rows.now c.in-Ok.at c.index-rows-at.result c.in-Ok.ensures.bound c.index-rows-at.is in
    let again = read_here c.args.rows.now c.in-Ok.at c.index-rows-at-then-is_live.result c.in-Ok.ensures.bound c.index-rows-at-then-is_live.is in
    ap (map.get (keys_of c.args.slab.now)) (sym (ap (λ r. r.ino) here ∙ is ∙ c.ino.view_is)) ∙ c.is_live.ensures.live c.if-is_live.true
    ∙ ap (λ (r : OrderRowView). Some r.key) (here ∙ sym again) ∙ ap Some (sym c.key.ensures.key)

pub returns-then-is_live-clause-number : goal.returns-then-is_live-clause-number
returns-then-is_live-clause-number g c = λ _.
    let by_key = c.in-Ok.ensures.position (λ (row : OrderRowView). row.ino) (answers_always _ _ _ (λ f a r g called. search rules)) in
    let is = found c.args.rows.now c.requires.rise c.ino.inside.0 c.in-Ok.at by_key in
    let again = read_here c.args.rows.now c.in-Ok.at c.index-rows-at-then-is_live.result c.in-Ok.ensures.bound c.index-rows-at-then-is_live.is in
    subst (λ n. n ≤ MAX_INO) (ap (λ r. r.ino) again ∙ is ∙ c.ino.view_is) c.key.ensures.number

pub returns-else-is_live-clause-none : goal.returns-else-is_live-clause-none
returns-else-is_live-clause-none g c = λ k at x.
    let by_key = c.in-Ok.ensures.position (λ (row : OrderRowView). row.ino) (answers_always _ _ _ (λ f a r g called. search rules)) in
    let is = found c.args.rows.now c.requires.rise c.ino.inside.0 c.in-Ok.at by_key in
    let here = read_here c.args.rows.now c.in-Ok.at c.index-rows-at.result c.in-Ok.ensures.bound c.index-rows-at.is in
    let row = here ∙ only c.args.rows.now c.requires.rise c.args.ino c.in-Ok.at k c.in-Ok.ensures.bound (is ∙ c.ino.view_is) x in
    let live = c.is_live.ensures.dead (ap (λ (r : OrderRowView). map.get (keys_of c.args.slab.now) r.ino) row ∙ at ∙ ap (λ (r : OrderRowView). Some r.key) (sym row)) in
    false≢true (sym c.if-is_live.false ∙ live)

pub returns-in-Err-clause-none : goal.returns-in-Err-clause-none
returns-in-Err-clause-none g c = λ k at x.
    let by_key = c.in-Err.ensures.position (λ (row : OrderRowView). row.ino) (answers_always _ _ _ (λ f a r g called. search rules)) in
    missed c.args.rows.now c.requires.rise c.ino.inside.0 c.in-Err.field-0 k c.in-Err.ensures.bound by_key (subst (λ n. HasRow c.args.rows.now n k) (sym c.ino.view_is) x)
