use Rattle.std.proofs.Common.{rules, ap, ◌∙◌, Some, nat_eq}
use Rattle.std.specs.FinMap as map
use Rattle.std.specs.HashMap as hash
use Rattle.af_table.proofs.Parts.{processes_inserted, rows_inserted}
use Rattle.af_table.proofs.procs.Procs.add.Goals as goal

pub returns-clause-processes : goal.returns-clause-processes
returns-clause-processes c =
    let updates : hash.Updates nat_eq c.self.inside.processes c.insert.new.self c.self.inside.next_pid (Some c.args.process) = search rules in
    processes_inserted c.self.inside.processes c.insert.new.self c.self.inside.next_pid c.args.process updates ∙ ap (λ s. map.insert s.processes s.next_pid c.args.process.process) c.self.view_is

pub returns-clause-rows : goal.returns-clause-rows
returns-clause-rows c =
    let updates : hash.Updates nat_eq c.self.inside.processes c.insert.new.self c.self.inside.next_pid (Some c.args.process) = search rules in
    rows_inserted c.self.inside.processes c.insert.new.self c.self.inside.next_pid c.args.process updates ∙ ap (λ s. map.insert s.rows s.next_pid c.args.process.row) c.self.view_is

pub returns-in_err-insert-clause-err : goal.returns-in_err-insert-clause-err
returns-in_err-insert-clause-err c = search rules
