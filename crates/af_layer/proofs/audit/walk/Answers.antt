use Rattle.std.proofs.Common.{rules, ◌≡◌, ◌<◌, ◌+◌, ap, length, slice_index, slice_set, sym, ◌∙◌, subst}
use Rattle.std.specs.Prelude.{None, slice_index_or}
use Rattle.std.proofs.lemmas.List.{get_or_default}
use Rattle.af_layer.specs.Audit.{nobody}
use Rattle.af_layer.specs.Walk.{AllTrack, Tracks}
use Rattle.af_layer.proofs.LogWalks.{entry-at, tracks-next}
use Rattle.af_layer.proofs.audit.walk.Goals as goal

pub loop-entry-preserved : goal.loop-entry-preserved
loop-entry-preserved c =
    let e = c.entry-item.result in
    let i = c.loop-entry.entry-index in
    let turn = entry-at c.args.log.now i e c.loop-entry-test.true c.entry-item.is in
    let number : e.seat < length c.args.positions.now = search rules in
    let within = c.requires.positions e.seat number in
    let seat = c.seat-number.ensures in
    let there = subst (λ m. slice_index_or c.args.seats.now (slice_index c.args.positions.now m) c.index-seats-positions.result ≡ c.index-seats-positions.result) seat (sym c.index-seats-positions.is) in
    let is = ap (λ s. s.list) (get_or_default c.args.seats.now (slice_index c.args.positions.now e.seat) nobody c.index-seats-positions.result within ∙ there) ∙ sym c.list.ensures in
    let first = subst (λ l. Tracks c.args.log.now l e.seat i (slice_index_or c.loop-entry.cursors e.seat None)) is (c.loop-entry.invariant e.seat number) in
    let before = subst (λ m. Tracks c.args.log.now c.list.result.now e.seat i (slice_index_or c.loop-entry.cursors m None)) (sym seat) first in
    subst (λ m. AllTrack c.args.log.now c.args.seats.now c.args.positions.now (i + 1) (slice_set c.loop-entry.cursors m c.advance.result)) (sym seat)
    (tracks-next c.args.log.now c.args.seats.now c.args.positions.now c.loop-entry.cursors i e c.advance.result turn (search rules) c.loop-entry.invariant
    (subst (λ l. Tracks c.args.log.now l e.seat (i + 1) c.advance.result) (sym is) (c.advance.ensures c.args.log.now i turn before)))
