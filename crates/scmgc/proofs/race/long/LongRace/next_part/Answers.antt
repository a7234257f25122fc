use Rattle.std.proofs.Common.{rules, ◌≡◌, ◌+◌, ap, length, map, subst, sym, vec_len, ◌∙◌}
use Rattle.std.proofs.lemmas.List.{length-map}
use Rattle.std.proofs.lemmas.Result.{IfOk-weaker}
use Rattle.scmgc.specs.Race.Parts.{AreFresh, ChildrenExitInPart, IsOfPart, IsPart}
use Rattle.scmgc.specs.Race.{worker_steps}
use Rattle.scmgc.proofs.race.Parts.{next-part}
use Rattle.scmgc.proofs.race.long.LongRace.next_part.Goals as goal

-- There are as many scripts as workers.
pub race_part-requires-clause-fresh : goal.race_part-requires-clause-fresh
race_part-requires-clause-fresh g c =
    let same : vec_len c.in_ok-scripts.scripts ≡ length c.in_ok-scripts.scripts.items = search rules in
    let many = same ∙ sym (length-map c.in_ok-scripts.scripts.items (λ script. script.items)) ∙ c.in_ok-scripts.ensures.made_count ∙ c.requires.sources in
    λ κs outlives. subst (λ n. AreFresh (n + 2) c.args.field.seats.items) (sym many) c.requires.fresh

pub returns-clause-fresh : goal.returns-clause-fresh
returns-clause-fresh g c =
    let same : vec_len c.in_ok-scripts.scripts ≡ length c.in_ok-scripts.scripts.items = search rules in
    let many = same ∙ sym (length-map c.in_ok-scripts.scripts.items (λ script. script.items)) ∙ c.in_ok-scripts.ensures.made_count ∙ c.requires.sources in
    IfOk-weaker c.race_part.result _ _ (λ raced fresh. subst (λ n. AreFresh (n + 2) raced.0.seats.items) many fresh) c.race_part.ensures.fresh

pub returns-clause-more : goal.returns-clause-more
returns-clause-more g c =
    let race = c.args.self.race in
    let parts = map (λ script. script.items) c.in_ok-scripts.scripts.items in
    let same : vec_len c.in_ok-scripts.scripts ≡ length c.in_ok-scripts.scripts.items = search rules in
    let many = same ∙ sym (length-map c.in_ok-scripts.scripts.items (λ script. script.items)) in
    let old = c.args.field.book in
    IfOk-weaker c.race_part.result _ _ (λ raced told done fits share went left.
    next-part race.workers race.steps race.seed race.budget c.args.self.checkpoint done c.args.count old told.0 raced.0.book c.args.sources.now parts c.next_parts.new.sources raced.1
    c.requires.steps fits share went left c.in_ok-scripts.ensures
    (subst (λ n. IsPart (λ seats machine. (seats ≡ old.seats) × (machine ≡ old.start)) (n + 2) (IsOfPart parts c.args.count race.budget) told.0) many told.1)
    (subst (λ n. ChildrenExitInPart n told.0.log) many told.2) told.3 (told.4 ∙ ap (λ n. worker_steps n told.0.log) many)) c.race_part.ensures.part
