use Rattle.std.proofs.Common.{◌≡◌, arith, ap, refl, sym, ◌∙◌, subst}
use Rattle.std.proofs.lemmas.List.{get_or-replicate, get_or_default}
use Rattle.af_layer.specs.Audit.{nobody, number_at}
use Rattle.af_layer.specs.Walk.{ArePositionsOf}
use Rattle.af_layer.proofs.SeatPositions.{known_number, positions-all, positions-first, positions-next}
use Rattle.af_layer.proofs.audit.positions.Goals as goal

pub loop-i-init : goal.loop-i-init
loop-i-init c = positions-first c.args.seats.now _ (let first = (c.requires.all_there 1 (omega arith) c.requires.range.0).1 in omega (arith, first)) refl (λ k lt. get_or-replicate 65 k 0 0 lt)

pub loop-i-preserved : goal.loop-i-preserved
loop-i-preserved c =
    let here = c.loop-i-test.true in
    let is : number_at c.args.seats.now c.loop-i.i ≡ c.number.result = ap (λ s. s.number) (get_or_default c.args.seats.now c.loop-i.i nobody c.index-seats-i.result here ∙ sym c.index-seats-i.is) ∙ sym c.number.ensures in
    let few = known_number c.args.count (number_at c.args.seats.now c.loop-i.i) (c.requires.known c.loop-i.i here).0 in
    positions-next c.args.count c.loop-i.i c.number.result c.args.seats.now c.loop-i.positions c.requires.known here (omega (arith, is, few, c.requires.range)) is c.loop-i.invariant

pub returns : goal.returns
returns c = positions-all c.args.count c.args.seats.now c.loop-i.positions c.requires.all_there (subst (λ i. ArePositionsOf i c.args.seats.now c.loop-i.positions) (omega (arith, c.loop-i.auto.i-end, c.loop-i-test.false)) c.loop-i.invariant)
