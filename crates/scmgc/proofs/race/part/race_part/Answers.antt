use Rattle.std.proofs.Common.{rules, ◌≡◌, ◌+◌, [], ap, map, vec_len, ◌∙◌}
use Rattle.scmgc.specs.Race.Parts.{EndsPart, IsOfPart}
use Rattle.scmgc.specs.Race.{worker_steps}
use Rattle.scmgc.proofs.race.Parts.{exits-logged, is-part}
use Rattle.scmgc.proofs.race.part.race_part.Goals as goal

pub returns-clause-part : goal.returns-clause-part
returns-clause-part g c =
    let n = vec_len c.args.scripts in
    let steps = map (λ script. script.items) c.args.scripts.items in
    let ended = c.in_ok-field.ensures in
    let workers : c.len-workers.result ≡ n = search rules in
    let log : c.as_slice.result.now ≡ c.in_ok-field.log.items = search rules in (
      ended.0,
      is-part g.O.Origin.begins (n + 2) (IsOfPart steps c.args.turns.turns c.args.turns.budget) ended.0 c.in_ok-seats.seats.items c.in_ok-seats.ensures.lists ended.1 ended.2 ended.3,
      exits-logged n (λ exits list. EndsPart exits [] list) (IsOfPart steps c.args.turns.turns c.args.turns.budget) ended.0 c.in_ok-seats.seats.items c.in_ok-seats.ensures.lists ended.3 c.in_ok-seats.ensures.exits,
      ended.5,
      c.steps_up_to-steps.ensures ∙ ap (λ k. worker_steps k c.as_slice.result.now) workers ∙ ap (worker_steps n) (log ∙ ended.6),
    )
