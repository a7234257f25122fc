-- The rest, added to the command now, makes the command with all.
use Rattle.std.proofs.Common.{◌≡◌, drop, false}
use Rattle.clap.specs.Words.{app_of}
use Rattle.clap.specs.declared.builder.command.Command.TheViews.{out-Command}
use Rattle.scmgc.specs.Task.{with_numbers}
use Rattle.scmgc.proofs.task.with_numbers.Given as goal

abbrev pub invariant-loop-option : goal.invariant-loop-option
invariant-loop-option l = record {
  shape : with_numbers (drop l.option-index l.options) (app_of l.command) ≡ with_numbers l.options (app_of l.fn.command);
  local : (out-Command l.command).has_globals ≡ false;
}
