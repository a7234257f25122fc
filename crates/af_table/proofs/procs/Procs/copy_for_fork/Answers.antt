use Rattle.std.proofs.Common.{rules, ◌≡◌, ap, ◌∙◌, Some, arith}
use Rattle.std.specs.Prelude.{unwrap_or}
use Rattle.std.specs.FinMap as map
use Rattle.af_base.proofs.Lookups.{insert-here, insert-other, told_apart}
use Rattle.af_base.proofs.Trees.{insert_same}
use Rattle.af_table.specs.Procs.{row_in}
use Rattle.af_table.proofs.procs.Procs.copy_for_fork.Goals as goal

pub returns-clause-rows : goal.returns-clause-rows
returns-clause-rows c = λ q apart.
    let old = c.args.self.now in
    let parent = c.unwrap-parent.result.now.row in
    let child = c.in_ok-process.process.row in
    let row : map.get old.rows c.args.pid ≡ Some parent = search rules in
    let same = ap (λ s. s.rows) c.self.view_is in
    let next = ap (λ s. s.next_pid) c.self.view_is in
    ap (λ m. row_in m q) (c.in_ok-add.ensures.rows ∙ (λ i. map.insert (map.insert (same i) c.args.pid parent) (next i) child))
    ∙ ap (λ o. unwrap_or o 0) (insert-other _ old.next_pid child q (told_apart q old.next_pid apart))
    ∙ ap (λ m. row_in m q) (insert_same old.rows c.args.pid parent row)

pub returns-clause-row : goal.returns-clause-row
returns-clause-row c =
    let parent : map.get c.args.self.now.rows c.args.pid ≡ Some c.unwrap-parent.result.now.row = search rules in
    let old = ap (λ o. unwrap_or o 0) parent in
    let new = (λ i. row_in (c.in_ok-add.ensures.rows i) (c.next_pid-child.ensures i)) ∙ ap (λ o. unwrap_or o 0) (insert-here _ _ _) in
    omega (arith, old, new, c.in_ok-process.ensures.row)
