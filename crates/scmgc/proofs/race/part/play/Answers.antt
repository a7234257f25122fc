use Rattle.std.proofs.Common.{rules, ◌≡◌, ◌++◌, [], ◌∷◌, List, ap, length, map, subst, vec_len, ◌∙◌}
use Rattle.std.specs.Prelude.{Vec, option_to_list}
use Rattle.std.proofs.Common.{Global}
use Rattle.std.proofs.lemmas.List.{length-map}
use Rattle.af_base.specs.declared.events.Event.{Event}
use Rattle.af_layer.specs.Drive.{Driven, Made, WentOn}
use Rattle.scmgc.specs.Race.Parts.{EndsPart}
use Rattle.scmgc.specs.Race.{all_exits_of}
use Rattle.scmgc.proofs.race.Parts.{last-began, seats-exited, seats-played}
use Rattle.scmgc.proofs.race.Works.{scripts-work}
use Rattle.scmgc.proofs.race.part.play.Goals as goal

pub returns-clause-lists : goal.returns-clause-lists
returns-clause-lists g c =
    let split : c.args.seats.items ≡ c.pop.new.self.items ++ c.unwrap-main.result ∷ [] = c.pop.ensures.items ∙ ap (λ o. c.pop.new.self.items ++ option_to_list o) c.unwrap-main.ensures in
    let scripts = c.args.scripts.items in
    let events : Vec Event Global → List Event = λ v. v.items in
    let turns = c.args.turns in
    let many : length scripts ≡ vec_len c.args.scripts = search rules in
    seats-played (vec_len c.args.scripts) c.args.seats.items c.pop.new.self.items c.unwrap-main.result c.requires.fresh split
    (map events scripts) turns.turns turns.budget (length-map scripts events ∙ many) c.in_ok-seats.seats.items c.push.new.self.items c.end_pass.new.main
    (subst (λ works. Driven Made c.pop.new.self.items works c.in_ok-seats.seats.items) (scripts-work scripts turns) c.in_ok-seats.ensures.done)
    c.in_ok-push.ensures.items (c.end_pass.ensures.number ∙ c.end_children.ensures.number)

pub returns-clause-exits : goal.returns-clause-exits
returns-clause-exits g c =
    let split : c.args.seats.items ≡ c.pop.new.self.items ++ c.unwrap-main.result ∷ [] = c.pop.ensures.items ∙ ap (λ o. c.pop.new.self.items ++ option_to_list o) c.unwrap-main.ensures in
    let n = vec_len c.args.scripts in
    let driven = c.in_ok-seats.seats.items in
    let lent : c.as_slice.result.now ≡ driven = search rules in
    let exited = subst (λ seats. WentOn c.unwrap-main.result.list (all_exits_of seats) c.end_children.new.main.list) lent c.in_ok-end_children.ensures.exits in
    let began = last-began n c.args.seats.items c.pop.new.self.items c.unwrap-main.result c.requires.fresh split in
    seats-exited n c.args.seats.items c.pop.new.self.items c.unwrap-main.result c.requires.fresh split (λ exits list. EndsPart exits [] list) driven c.push.new.self.items c.end_pass.new.main
    c.in_ok-seats.ensures.done.count c.in_ok-push.ensures.items
    (subst (λ l. EndsPart (all_exits_of driven) l c.end_pass.new.main.list) began (c.end_children.new.main.list, exited, c.in_ok-end_pass.ensures.ended))
