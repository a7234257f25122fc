-- The list was extended.
use Rattle.std.proofs.Common.{◌≡◌, ◌++◌, List}
use Rattle.af_layer.specs.Log.{Pair}
use Rattle.scmgc.proofs.race.finish.end_pass.Given as goal

abbrev pub invariant-slices : goal.invariant-slices
invariant-slices g l = record {
  number : l.main.number ≡ l.fn.main.number;
  list : (more : List Pair) × (l.main.list ≡ l.fn.main.list ++ more);
}
