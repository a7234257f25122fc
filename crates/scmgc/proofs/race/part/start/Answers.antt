use Rattle.std.proofs.Common.{◌≡◌, ◌++◌, [], ◌∷◌, ap, ◌∙◌}
use Rattle.std.specs.Prelude.{option_to_list}
use Rattle.scmgc.proofs.race.Parts.{seats-started}
use Rattle.scmgc.proofs.race.part.start.Goals as goal

pub returns : goal.returns
returns g c =
    let split : c.args.seats.items ≡ c.pop.new.self.items ++ c.unwrap-main.result ∷ [] = c.pop.ensures.items ∙ ap (λ o. c.pop.new.self.items ++ option_to_list o) c.unwrap-main.ensures in
    seats-started c.args.workers c.args.seats.items c.pop.new.self.items c.unwrap-main.result c.requires.fresh split c.push.new.self.items c.start_processes.new.main
    c.in_ok-push.ensures.items c.start_processes.ensures.number c.in_ok-start_processes.ensures.started
