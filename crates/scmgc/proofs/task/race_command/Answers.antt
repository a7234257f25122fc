use Rattle.std.proofs.Common.{rules, ◌≡◌, ◌||◌, Bool, false, ap, codes, ◌∙◌}
use Rattle.std.proofs.lemmas.Result.{IfOk-weaker}
use Rattle.clap.specs.Words.{App, app_of, new_app, with_rule}
use Rattle.clap.specs.declared.builder.command.Command.{Command}
use Rattle.clap.specs.declared.builder.command.Command.TheViews.{out-Command}
use Rattle.scmgc.specs.Task.{checkpoint_rule, number_rule, race_app}
use Rattle.scmgc.proofs.task.race_command.Goals as goal

-- The option for checkpoints is added to the others.
pub returns-clause-shape : goal.returns-clause-shape
returns-clause-shape c =
    let none : app_of c.about-command.result ≡ new_app (codes "race") = search rules in
    let numbers = c.in_ok-command.ensures.shape ∙ ap (λ (a : App). with_rule (with_rule (with_rule (with_rule a (number_rule (codes "workers") 1 32)) (number_rule (codes "steps") 5 100000000)) (number_rule (codes "seed") 0 4294967295)) (number_rule (codes "budget") 1 65536)) none in
    IfOk-weaker c.arg.result _ (λ (r : Command). app_of r ≡ race_app) (λ r adds. adds.shape c.checkpoint_option.ensures.local ∙ ap (with_rule (app_of c.in_ok-command.command)) c.checkpoint_option.ensures.shape ∙ ap (λ (a : App). with_rule a checkpoint_rule) numbers) c.arg.ensures

pub returns-clause-local : goal.returns-clause-local
returns-clause-local c =
    IfOk-weaker c.arg.result _ (λ (r : Command). (out-Command r).has_globals ≡ false) (λ r adds. adds.globals ∙ ap (λ (b : Bool). b || c.checkpoint_option.result.global) c.in_ok-command.ensures.local ∙ c.checkpoint_option.ensures.local) c.arg.ensures
