use Rattle.std.proofs.Common.{rules, List, map, subst, sym}
use Rattle.af_base.specs.Run.{Run}
use Rattle.af_layer.specs.Log.{Entry, pair_of}
use Rattle.af_layer.proofs.book.Book.new.Goals as goal

pub invariant_of-result : goal.invariant_of-result
invariant_of-result c = record {
  some_seat = search rules;
  few_seats = search rules;
  of_seats = search rules;
  run = subst (λ (log : List Entry). Run c.of-start.result.value (map pair_of log) c.in_ok-engine.engine) (sym c.new-2.ensures.items) (sym c.of-start.ensures);
}
