use Rattle.std.proofs.Common.{rules, ◌≡◌, ap, arith, length, subst, sym, take, ◌∙◌}
use Rattle.std.proofs.lemmas.List.{take_all}
use Rattle.std.proofs.lemmas.Result.{IfOk-weaker}
use Rattle.std.specs.List.{All}
use Rattle.scmgc.specs.Race.Scripts.{IsStepOf, script_of}
use Rattle.scmgc.proofs.race.ScriptLength.{script-count}
use Rattle.scmgc.proofs.race.OwnSteps.{own-script}
use Rattle.scmgc.proofs.race.workload.script.make_script.Goals as goal

pub returns-clause-events : goal.returns-clause-events
returns-clause-events c =
    let script = script_of c.args.worker c.args.workers c.args.steps c.args.seed in
    let count = script-count c.args.worker c.args.workers c.args.steps c.args.seed c.requires.steps.0 in
    IfOk-weaker c.part.result _ _ (λ made is. is ∙ ap (take c.args.steps) c.new-source.ensures ∙ take_all c.args.steps script (omega (arith, count))) c.part.ensures.made

pub returns-clause-count : goal.returns-clause-count
returns-clause-count c =
    let count = script-count c.args.worker c.args.workers c.args.steps c.args.seed c.requires.steps.0 in
    IfOk-weaker c.part.result _ _ (λ made is. let all : length made.items ≡ c.args.steps = ap length is ∙ count in search rules) (returns-clause-events c)

pub returns-clause-own : goal.returns-clause-own
returns-clause-own c =
    IfOk-weaker c.part.result _ _ (λ made is. subst (All (IsStepOf c.args.worker)) (sym is) (own-script c.args.worker c.args.workers c.args.steps c.args.seed)) (returns-clause-events c)
