use Rattle.std.proofs.Common.{rules, ◌≡◌, ◌+◌, length}
use Rattle.scmgc.specs.Race.Parts.{IsOfStart}
use Rattle.scmgc.proofs.race.Parts.{goes-first, log-has, open-fresh}
use Rattle.scmgc.proofs.race.part.open_field.Goals as goal

pub start-requires-clause-fresh : goal.start-requires-clause-fresh
start-requires-clause-fresh g c =
    let count : length c.in_ok-layer.seats.items ≡ c.args.workers + 2 = search rules in
    open-fresh (c.args.workers + 2) c.in_ok-layer.seats.items count c.in_ok-layer.ensures.seats

pub returns-clause-begun : goal.returns-clause-begun
returns-clause-begun g c = λ steps seed budget checkpoint.
    let workers = c.args.workers in
    let ended = c.in_ok-field.ensures in
    goes-first workers steps seed budget checkpoint ended.0 c.in_ok-field.field.book ended.5 ended.2 ended.1
    (log-has (workers + 2) (IsOfStart workers) ended.0 c.in_ok-seats.seats.items c.in_ok-seats.ensures ended.3)
