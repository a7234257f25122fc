use Rattle.std.proofs.Common.{◌≡◌, [], ◌∷◌, ◌++◌, ap, subst, ◌∙◌}
use Rattle.std.specs.Prelude.{option_to_list}
use Rattle.scmgc.specs.Race.{Finishes, all_exits_of}
use Rattle.scmgc.proofs.race.RaceEnds.{race-exits, race-raced}
use Rattle.scmgc.proofs.race.whole.Race.play.Goals as goal

pub returns-clause-raced : goal.returns-clause-raced
returns-clause-raced g c = λ b legal whole.
    let race = c.args.self in
    let split : c.args.seats.items ≡ c.pop.new.self.items ++ c.unwrap-main.result ∷ [] = c.pop.ensures.items ∙ ap (λ o. c.pop.new.self.items ++ option_to_list o) c.unwrap-main.ensures in
    let done = subst (λ s. Finishes (all_exits_of s) c.start_processes.new.main.list c.finish.new.main.list) c.as_slice.ensures.value c.in_ok-finish.ensures.done in
    race-raced race.workers race.steps race.seed race.budget b c.args.seats.items c.pop.new.self.items c.in_ok-seats.seats.items c.push.new.self.items
    c.unwrap-main.result c.start_processes.new.main c.finish.new.main c.requires.fresh split c.start_processes.ensures.number c.in_ok-start_processes.ensures.started
    c.in_ok-seats.ensures c.finish.ensures.number done c.in_ok-push.ensures.items whole legal

pub returns-clause-exits : goal.returns-clause-exits
returns-clause-exits g c = λ b whole.
    let race = c.args.self in
    let split : c.args.seats.items ≡ c.pop.new.self.items ++ c.unwrap-main.result ∷ [] = c.pop.ensures.items ∙ ap (λ o. c.pop.new.self.items ++ option_to_list o) c.unwrap-main.ensures in
    let done = subst (λ s. Finishes (all_exits_of s) c.start_processes.new.main.list c.finish.new.main.list) c.as_slice.ensures.value c.in_ok-finish.ensures.done in
    race-exits race.workers race.steps race.seed race.budget b c.args.seats.items c.pop.new.self.items c.in_ok-seats.seats.items c.push.new.self.items
    c.unwrap-main.result c.start_processes.new.main c.finish.new.main c.requires.fresh split c.start_processes.ensures.number c.in_ok-start_processes.ensures.started
    c.in_ok-seats.ensures c.finish.ensures.number done c.in_ok-push.ensures.items whole
