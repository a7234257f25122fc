use Rattle.std.proofs.Common.{subst}
use Rattle.af_layer.specs.Drive.{Driven, Made}
use Rattle.scmgc.proofs.race.Works.{works-are}
use Rattle.scmgc.proofs.race.whole.Race.work.Goals as goal

pub returns : goal.returns
returns g c =
    let race = c.args.self in
    subst (λ works. Driven Made c.args.seats.items works c.in_ok-drive.field-0.items)
    (works-are c.in_ok-scripts.scripts.items race.workers race.steps race.seed race.budget c.in_ok-scripts.ensures) c.in_ok-drive.ensures.done
