use Rattle.std.proofs.Common.{◌≡◌, List, ◌<◌, ◌+◌, arith, ap, length, slice_index, sym, ◌∙◌, subst}
use Rattle.std.specs.Prelude.{Some, None, slice_index_or}
use Rattle.std.proofs.lemmas.List.{get_or-replicate, get_or_default}
use Rattle.af_layer.specs.Audit.{list_at, nobody}
use Rattle.af_layer.specs.Log.{Pair}
use Rattle.af_layer.specs.Walk.{Tracks}
use Rattle.af_layer.proofs.LogWalks.{another, tracks-start, tracks-wrong}
use Rattle.af_layer.proofs.audit.first_wrong.Goals as goal

pub walk-requires-clause-start : goal.walk-requires-clause-start
walk-requires-clause-start c k lt =
    let list = list_at c.args.seats.now (slice_index c.positions-positions.result k) in
    subst (Tracks c.args.log.now list k 0) (sym (get_or-replicate 65 k (Some 0) None (omega (arith, lt, c.positions-positions.ensures.count)))) (tracks-start c.args.log.now list k)

pub returns-then-ne : goal.returns-then-ne
returns-then-ne c =
    let k = c.loop-before.before + 1 in
    let positions = c.positions-positions.ensures in
    let number : k < length c.positions-positions.result = omega (arith, positions.count, c.requires.range, c.loop-before-test.true) in
    let place = slice_index c.positions-positions.result k in
    let list = list_at c.args.seats.now place in
    let is : c.list.result.now ≡ list = c.list.ensures ∙ ap (λ s. s.list) (c.index-seats-positions.is ∙ get_or_default c.args.seats.now place c.index-seats-positions.result nobody (positions.within k number)) in (
      omega arith,
      omega (arith, c.loop-before-test.true),
      (
        (
          place,
          positions.within k number,
          positions.right k (omega arith) (omega (arith, c.loop-before-test.true)),
          tracks-wrong c.args.log.now list k (slice_index_or c.walk.new.cursors k None) (λ same. another (slice_index_or c.walk.new.cursors k None) (length c.list.result.now) (sym c.if-ne.true ∙ c.ne.ensures) (same ∙ ap (λ (l : List Pair). Some (length l)) (sym is))) (c.walk.ensures k number),
        ),
        λ j low lt. c.loop-before.invariant j low (omega (arith, lt)),
      ),
    )
