use Rattle.std.proofs.Common.{rules, ◌≡◌}
use Rattle.std.specs.Prelude.{Some}
use Rattle.clap.specs.Words.{found_of, rows_of, subcommand_rows_of}
use Rattle.scmgc.proofs.TaskWords.{no_task, none_then}
use Rattle.scmgc.proofs.task.chosen_task.Goals as goal

pub returns-in-race-default-clause-none : goal.returns-in-race-default-clause-none
returns-in-race-default-clause-none c =
    let name = c.in_ok-subcommand.field-0.0.now in
    let rows = rows_of (found_of c.in_ok-subcommand.field-0.1.now) in
    let is : subcommand_rows_of c.args.matches.now ≡ Some (name, rows) = search rules in
    none_then c.race_of.result (no_task (subcommand_rows_of c.args.matches.now) name rows is (search rules) (search rules)) c.race_of.ensures.none
