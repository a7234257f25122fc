use Rattle.std.proofs.Common.{inl, inr, ap, ◌∙◌, arith}
use Rattle.std.specs.Prelude.{unwrap_or}
use Rattle.std.specs.FinMap as map
use Rattle.std.proofs.lemmas.Result.{on_ok_weaker}
use Rattle.af_base.specs.Refusals.{no_process}
use Rattle.af_base.proofs.Lookups.{insert-here, insert-other, same_or_not, told_apart}
use Rattle.af_table.specs.Procs.{row_in}
use Rattle.af_table.proofs.procs.Procs.room_for.Goals as goal

pub returns-clause-ok : goal.returns-clause-ok
returns-clause-ok c =
    let limit = ap (λ o. (unwrap_or o no_process).limit) c.in-Some.ensures.there in
    let row = ap (λ o. unwrap_or o 0) (insert-here c.args.self.now.rows c.args.pid c.make_room.new.self.row) in
    on_ok_weaker c.make_room.result (λ le many. omega (arith, le, limit, row)) c.make_room.ensures.ok

pub returns-clause-rows : goal.returns-clause-rows
returns-clause-rows c = λ q.
    let rows = c.args.self.now.rows in
    let longer = map.insert rows c.args.pid c.make_room.new.self.row in
    elim (same_or_not q c.args.pid) [
      | inl e ↦
          let old = ap (row_in rows) e ∙ ap (λ o. unwrap_or o 0) c.in-Some.ensures.row in
          let new = ap (row_in longer) e ∙ ap (λ o. unwrap_or o 0) (insert-here rows c.args.pid c.make_room.new.self.row) in
          omega (arith, old, new, c.make_room.ensures.rows)
      | inr a ↦
          let same = ap (λ o. unwrap_or o 0) (insert-other rows c.args.pid c.make_room.new.self.row q a) in
          omega (arith, same)
    ]

pub returns-clause-others : goal.returns-clause-others
returns-clause-others c = λ q apart. ap (λ o. unwrap_or o 0) (insert-other c.args.self.now.rows c.args.pid c.make_room.new.self.row q (told_apart q c.args.pid apart))
