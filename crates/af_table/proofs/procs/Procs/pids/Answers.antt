use Rattle.std.proofs.Common.{rules, ap, ◌∙◌}
use Rattle.std.specs.FinMap as map
use Rattle.af_table.proofs.Pids.{pids_are, pids_rise}
use Rattle.af_table.proofs.procs.Procs.pids.Goals as goal

pub returns-clause-all : goal.returns-clause-all
returns-clause-all c =
    pids_are c.self.inside.processes c.in_ok-pids.pids.items c.sort_unstable.new.self.items c.keys.ensures.unique (search rules) c.sort_unstable.ensures.permutation c.sort_unstable.ensures.sorted
    ∙ ap (λ s. map.keys s.processes) c.self.view_is

pub returns-clause-rising : goal.returns-clause-rising
returns-clause-rising c =
    pids_rise c.self.inside.processes c.in_ok-pids.pids.items c.sort_unstable.new.self.items c.keys.ensures.unique (search rules) c.sort_unstable.ensures.permutation c.sort_unstable.ensures.sorted
