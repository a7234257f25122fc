use Rattle.std.proofs.Common.{map, subst}
use Rattle.scmgc.specs.Task.{Names}
use Rattle.scmgc.specs.declared.task.Task.TheVariants as task
use Rattle.scmgc.proofs.TaskWords.{race_not_play, run_not_play, run_not_race}
use Rattle.scmgc.proofs.program.program.Goals as goal

pub returns-in-Ok-clause-race : goal.returns-in-Ok-clause-race
returns-in-Ok-clause-race g c = λ fit workers steps seed budget checkpoint race.
    let words = map g.S.AsStr.text c.args.words.now in
    absurd (run_not_race words workers steps seed budget checkpoint (subst (Names words) c.in-Ok-Run.field-0-is c.in-Ok-Run.ensures.ok) race)

pub returns-in-Err-run_script-clause-race : goal.returns-in-Err-run_script-clause-race
returns-in-Err-run_script-clause-race g c = λ fit workers steps seed budget checkpoint race.
    let words = map g.S.AsStr.text c.args.words.now in
    absurd (run_not_race words workers steps seed budget checkpoint (subst (Names words) c.in-Ok-Run.field-0-is c.in-Ok-Run.ensures.ok) race)

pub returns-in-Ok-Race-clause-run : goal.returns-in-Ok-Race-clause-run
returns-in-Ok-Race-clause-run g c = λ fit run.
    let words = map g.S.AsStr.text c.args.words.now in
    absurd (run_not_race words c.in-Ok-Race.workers c.in-Ok-Race.steps c.in-Ok-Race.seed c.in-Ok-Race.budget c.in-Ok-Race.checkpoint run (subst (Names words) c.in-Ok-Race.field-0-is c.in-Ok-Race.ensures.ok))

pub returns-in-Ok-Play-None-clause-run : goal.returns-in-Ok-Play-None-clause-run
returns-in-Ok-Play-None-clause-run g c = λ fit run.
    let words = map g.S.AsStr.text c.args.words.now in
    absurd (run_not_play words c.in-Ok-Play-None.field-0-0 run (subst (Names words) c.in-Ok-Play-None.field-0-is c.in-Ok-Play-None.ensures.ok))

pub returns-in-Ok-Play-None-clause-race : goal.returns-in-Ok-Play-None-clause-race
returns-in-Ok-Play-None-clause-race g c = λ fit workers steps seed budget checkpoint race.
    let words = map g.S.AsStr.text c.args.words.now in
    absurd (race_not_play words workers steps seed budget checkpoint c.in-Ok-Play-None.field-0-0 race (subst (Names words) c.in-Ok-Play-None.field-0-is c.in-Ok-Play-None.ensures.ok))

pub returns-in-Ok-Play-Some-clause-run : goal.returns-in-Ok-Play-Some-clause-run
returns-in-Ok-Play-Some-clause-run g c = λ fit run.
    let words = map g.S.AsStr.text c.args.words.now in
    absurd (run_not_play words c.in-Ok-Play-Some.field-0-0 run (subst (Names words) c.in-Ok-Play-Some.field-0-is c.in-Ok-Play-Some.ensures.ok))

pub returns-in-Ok-Play-Some-clause-race : goal.returns-in-Ok-Play-Some-clause-race
returns-in-Ok-Play-Some-clause-race g c = λ fit workers steps seed budget checkpoint race.
    let words = map g.S.AsStr.text c.args.words.now in
    absurd (race_not_play words workers steps seed budget checkpoint c.in-Ok-Play-Some.field-0-0 race (subst (Names words) c.in-Ok-Play-Some.field-0-is c.in-Ok-Play-Some.ensures.ok))

pub returns-in-Ok-clause-refused : goal.returns-in-Ok-clause-refused
returns-in-Ok-clause-refused g c = λ none.
    let words = map g.S.AsStr.text c.args.words.now in
    absurd (none task.Run (subst (Names words) c.in-Ok-Run.field-0-is c.in-Ok-Run.ensures.ok))

pub returns-in-Err-run_script-clause-refused : goal.returns-in-Err-run_script-clause-refused
returns-in-Err-run_script-clause-refused g c = λ none.
    let words = map g.S.AsStr.text c.args.words.now in
    absurd (none task.Run (subst (Names words) c.in-Ok-Run.field-0-is c.in-Ok-Run.ensures.ok))

pub returns-in-Ok-Race-clause-refused : goal.returns-in-Ok-Race-clause-refused
returns-in-Ok-Race-clause-refused g c = λ none.
    let words = map g.S.AsStr.text c.args.words.now in
    absurd (none (task.Race c.in-Ok-Race.workers c.in-Ok-Race.steps c.in-Ok-Race.seed c.in-Ok-Race.budget c.in-Ok-Race.checkpoint) (subst (Names words) c.in-Ok-Race.field-0-is c.in-Ok-Race.ensures.ok))

pub returns-in-Ok-Play-None-clause-refused : goal.returns-in-Ok-Play-None-clause-refused
returns-in-Ok-Play-None-clause-refused g c = λ none.
    let words = map g.S.AsStr.text c.args.words.now in
    absurd (none (task.Play c.in-Ok-Play-None.field-0-0) (subst (Names words) c.in-Ok-Play-None.field-0-is c.in-Ok-Play-None.ensures.ok))

pub returns-in-Ok-Play-Some-clause-refused : goal.returns-in-Ok-Play-Some-clause-refused
returns-in-Ok-Play-Some-clause-refused g c = λ none.
    let words = map g.S.AsStr.text c.args.words.now in
    absurd (none (task.Play c.in-Ok-Play-Some.field-0-0) (subst (Names words) c.in-Ok-Play-Some.field-0-is c.in-Ok-Play-Some.ensures.ok))
