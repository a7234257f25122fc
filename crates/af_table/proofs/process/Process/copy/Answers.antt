use Rattle.std.proofs.Common.{rules, ◌≡◌, ◌-◌, true, sym, ap, ◌∙◌, arith}
use Rattle.std.specs.FinMap as map
use Rattle.af_table.specs.Bits.{is_taken}
use Rattle.af_table.proofs.Tables.{open_as_marked, table_cuts, taken_low}
use Rattle.af_table.proofs.process.Process.copy.Goals as goal

pub returns-clause-last : goal.returns-clause-last
returns-clause-last c = λ some.
    let words = c.self.inside.taken.words in
    let none = c.self.invariant.2 in
    let row = c.in_ok-copy_files.field-0.len in
    let end = c.end_below-end.result in
    let len : row ≡ c.min-used.result = search (rules, arith) in
    let taken : is_taken words (end - 1) ≡ true = c.end_below-end.ensures.last (omega (arith, some, len, c.min-used.ensures)) in
    let low = taken_low words _ (end - 1) none taken in
    sym (ap (λ s. map.contains_key s.process.table (row - 1)) c.self.view_is)
    ∙ open_as_marked words c.self.inside.slots.items _ (row - 1) (search (rules, arith)) none
    ∙ ap (is_taken words) (omega (arith, some, len, low, c.min-used.ensures, c.len-2.ensures))
    ∙ taken

pub returns-clause-process : goal.returns-clause-process
returns-clause-process c = grind (arith, table_cuts)
