use Rattle.std.proofs.Common.{rules, ◌≡◌, ◌∙◌, ap, codes, subst, sym}
use Rattle.std.specs.Prelude.{None}
use Rattle.clap.specs.Words.{found_of, rows_of}
use Rattle.scmgc.specs.Task.{HasNumber, most_steps}
use Rattle.scmgc.proofs.Numbers.{one_number}
use Rattle.scmgc.proofs.task.race_of.Goals as goal

pub returns-in_err-checkpoint-clause-none : goal.returns-in_err-checkpoint-clause-none
returns-in_err-checkpoint-clause-none c =
    let same : c.from_residual.result ≡ None = search rules in
    rw same (λ workers steps seed budget checkpoint race. c.in_err-checkpoint.ensures.none checkpoint race.checkpoint_is)

pub returns-in_err-number-clause-none : goal.returns-in_err-number-clause-none
returns-in_err-number-clause-none c =
    let same : c.from_residual-in_err-number.result ≡ None = search rules in
    rw same (λ workers steps seed budget checkpoint race. c.in_err-number.ensures.none workers race.workers_is)

pub returns-in_err-number-2-clause-none : goal.returns-in_err-number-2-clause-none
returns-in_err-number-2-clause-none c =
    let same : c.from_residual-in_err-number-2.result ≡ None = search rules in
    let rows = rows_of (found_of c.args.matches.now) in
    rw same (λ workers steps seed budget checkpoint race.
    c.in_err-number-2.ensures.none steps (subst (λ n. HasNumber rows (codes "steps") 5 n steps) (ap most_steps (one_number rows (codes "checkpoint") 0 250000 checkpoint c.in_ok-checkpoint.checkpoint race.checkpoint_is (search rules)) ∙ sym c.most_steps.ensures) race.steps_is))

pub returns-in_err-number-3-clause-none : goal.returns-in_err-number-3-clause-none
returns-in_err-number-3-clause-none c =
    let same : c.from_residual-in_err-number-3.result ≡ None = search rules in
    rw same (λ workers steps seed budget checkpoint race. c.in_err-number-3.ensures.none seed race.seed_is)

pub returns-in_err-number-4-clause-none : goal.returns-in_err-number-4-clause-none
returns-in_err-number-4-clause-none c =
    let same : c.from_residual-in_err-number-4.result ≡ None = search rules in
    rw same (λ workers steps seed budget checkpoint race. c.in_err-number-4.ensures.none budget race.budget_is)
