use Rattle.std.proofs.Common.{◌+◌}
use Rattle.scmgc.specs.Race.Parts.{IsOfEnd}
use Rattle.scmgc.proofs.race.Parts.{is-part}
use Rattle.scmgc.proofs.race.part.last_part.Goals as goal

pub returns : goal.returns
returns g c =
    let n = c.args.workers in
    let ended = c.in_ok-book.ensures in (
      ended.0,
      is-part g.O.Origin.begins (n + 2) (IsOfEnd n) ended.0 c.in_ok-seats.seats.items c.in_ok-seats.ensures ended.1 ended.2 ended.3,
      ended.5,
    )
