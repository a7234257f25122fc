use Rattle.std.proofs.Common.{rules, ◌≡◌, ◌+◌, length}
use Rattle.scmgc.proofs.race.Parts.{open-fresh}
use Rattle.scmgc.proofs.race.SeatEntries.{all-steps}
use Rattle.scmgc.proofs.race.whole.Race.run.Goals as goal

pub play-requires-clause-fresh : goal.play-requires-clause-fresh
play-requires-clause-fresh g c =
    let n = c.args.self.workers + 2 in
    let count : length c.in_ok-layer.seats.items ≡ n = search rules in
    λ κs outlives. open-fresh n c.in_ok-layer.seats.items count c.in_ok-layer.ensures.seats

pub returns-clause-raced : goal.returns-clause-raced
returns-clause-raced g c = c.in_ok-seats.ensures.raced c.in_ok-closed.closed.book c.in_ok-closed.ensures.legal c.in_ok-closed.ensures.whole

pub returns-clause-exits : goal.returns-clause-exits
returns-clause-exits g c = c.in_ok-seats.ensures.exits c.in_ok-closed.closed.book c.in_ok-closed.ensures.whole

pub returns-clause-steps : goal.returns-clause-steps
returns-clause-steps g c =
    let race = c.args.self in
    all-steps race.workers race.steps race.seed c.in_ok-closed.closed.book c.requires.steps.0 (returns-clause-raced g c).did
