use Rattle.std.proofs.Common.{ap, nat_eq, subst, sym, ◌∙◌, None}
use Rattle.std.specs.Prelude.{IfSome, is_some}
use Rattle.std.specs.FinMap as map
use Rattle.std.specs.HashMap as hash
use Rattle.std.specs.Option.{IsSome}
use Rattle.af_table.proofs.Parts.{processes_absent, processes_removed, rows_absent, rows_removed}
use Rattle.af_table.proofs.Places.{entry_known, is_there, pid_there}
use Rattle.af_table.proofs.procs.Procs.remove.Goals as goal

pub returns-in_default-clause-processes : goal.returns-in_default-clause-processes
returns-in_default-clause-processes c = processes_absent c.self.inside.processes c.args.pid c.in_default.ensures.none ∙ ap (λ s. map.remove s.processes c.args.pid) c.self.view_is

pub returns-in_default-clause-rows : goal.returns-in_default-clause-rows
returns-in_default-clause-rows c = rows_absent c.self.inside.processes c.args.pid c.in_default.ensures.none ∙ ap (λ s. map.remove s.rows c.args.pid) c.self.view_is

pub unwrap-gone-requires : goal.unwrap-gone-requires
unwrap-gone-requires c = subst IsSome (sym c.swap_remove_index.ensures.entry) (entry_known c.self.inside.processes.entries c.in-Some.index c.args.pid c.in-Some.ensures.there)

pub returns-clause-known : goal.returns-clause-known
returns-clause-known c =
    sym (ap is_some (sym (ap (λ s. map.get s.processes c.args.pid) c.self.view_is)
    ∙ is_there c.self.inside.processes c.in-Some.index c.args.pid _ _ c.in-Some.ensures.there (sym c.swap_remove_index.ensures.entry ∙ c.unwrap-gone.ensures) c.len-last.ensures.unique))

pub returns-clause-processes : goal.returns-clause-processes
returns-clause-processes c =
    let m = c.self.inside.processes in
    let n = c.swap_remove_index.new.self in
    let pid = pid_there m c.in-Some.index c.args.pid _ _ c.in-Some.ensures.there (sym c.swap_remove_index.ensures.entry ∙ c.unwrap-gone.ensures) in
    let gone = subst (λ o. IfSome o (λ p. hash.Updates nat_eq m n p.0 None)) c.unwrap-gone.ensures c.swap_remove_index.ensures.updates in
    ap (λ s. s.processes) c.keep_row.ensures ∙ processes_removed m n c.args.pid (subst (λ k. hash.Updates nat_eq m n k None) pid gone) ∙ ap (λ s. map.remove s.processes c.args.pid) c.self.view_is

pub returns-clause-rows : goal.returns-clause-rows
returns-clause-rows c =
    let m = c.self.inside.processes in
    let n = c.swap_remove_index.new.self in
    let pid = pid_there m c.in-Some.index c.args.pid _ _ c.in-Some.ensures.there (sym c.swap_remove_index.ensures.entry ∙ c.unwrap-gone.ensures) in
    let gone = subst (λ o. IfSome o (λ p. hash.Updates nat_eq m n p.0 None)) c.unwrap-gone.ensures c.swap_remove_index.ensures.updates in
    ap (λ s. s.rows) c.keep_row.ensures ∙ rows_removed m n c.args.pid (subst (λ k. hash.Updates nat_eq m n k None) pid gone) ∙ ap (λ s. map.remove s.rows c.args.pid) c.self.view_is
