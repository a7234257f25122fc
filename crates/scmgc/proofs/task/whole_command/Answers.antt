use Rattle.std.proofs.Common.{◌≡◌, ap, ◌∙◌}
use Rattle.std.proofs.lemmas.Result.{IfOk-weaker}
use Rattle.clap.specs.Words.{App, app_of, shape_of, with_subcommand}
use Rattle.clap.specs.declared.builder.command.Command.{Command}
use Rattle.scmgc.specs.Task.{bare_app, play_app, run_app, whole_app}
use Rattle.scmgc.proofs.task.whole_command.Goals as goal

-- Each subcommand is added to those before it.
pub returns : goal.returns
returns c =
    let first : app_of c.in_ok-subcommand.field-0 ≡ with_subcommand bare_app run_app.top =
    c.in_ok-subcommand.ensures.shape c.run_command.ensures.local ∙ ap (λ (a : App). with_subcommand a (shape_of c.run_command.result)) c.bare_command.ensures.shape
    ∙ ap (λ (a : App). with_subcommand bare_app a.top) c.run_command.ensures.shape in
    let second : app_of c.in_ok-subcommand-2.field-0 ≡ with_subcommand (with_subcommand bare_app run_app.top) play_app.top =
    c.in_ok-subcommand-2.ensures.shape c.in_ok-play_command.ensures.local ∙ ap (λ (a : App). with_subcommand a (shape_of c.in_ok-play_command.field-0)) first
    ∙ ap (λ (a : App). with_subcommand (with_subcommand bare_app run_app.top) a.top) c.in_ok-play_command.ensures.shape in
    record {
      shape = IfOk-weaker c.subcommand-3.result _ (λ (r : Command). app_of r ≡ whole_app) (λ r adds.
          adds.shape c.in_ok-race_command.ensures.local ∙ ap (λ (a : App). with_subcommand a (shape_of c.in_ok-race_command.field-0)) second
          ∙ ap (λ (a : App). with_subcommand (with_subcommand (with_subcommand bare_app run_app.top) play_app.top) a.top) c.in_ok-race_command.ensures.shape) c.subcommand-3.ensures;
    }
