-- A process that is written through the borrow keeps its pid, and all else stays.
use Rattle.std.proofs.Common.{inl, ap, sym, ◌∙◌}
use Rattle.std.specs.FinMap as map
use Rattle.indexmap.specs.IndexMap.{spare}
use Rattle.af_table.specs.Lending.{with_process}
use Rattle.af_table.proofs.Places.{is_there, processes_put, row_there, rows_put}
use Rattle.af_table.proofs.procs.Procs.find_mut.Goals as goal

pub returns : goal.returns
returns c =
    let m = c.self.inside.processes in
    let pid = c.args.pid in
    let e = c.pair_mut-process.ensures in
    let there = c.in_ok-index.ensures.there in (
      (λ i. inl (
        c.pair_mut-process.result.1.ghost_name,
        λ w. ((λ j. record {
          processes = processes_put m c.in_ok-index.index pid _ _ there e.value e.unique w j;
          rows = rows_put m c.in_ok-index.index pid _ _ there e.value e.unique w j;
          next_pid = c.self.inside.next_pid;
          room = spare m;
        }) ∙ ap (λ s. with_process s pid w) c.self.view_is) i,
      )),
      record {
        writes_back = tt;
        there = sym (ap (λ s. map.get s.processes pid) c.self.view_is) ∙ is_there m c.in_ok-index.index pid _ _ there e.value e.unique;
        row = sym (ap (λ s. map.get s.rows pid) c.self.view_is) ∙ row_there m c.in_ok-index.index pid _ _ there e.value e.unique;
        none = tt;
      },
    )
