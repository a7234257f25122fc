-- The children of the first calls have exited.
use Rattle.std.proofs.Common.{◌≡◌, take}
use Rattle.af_layer.specs.Drive.{WentOn}
use Rattle.scmgc.specs.Race.{exits_of}
use Rattle.scmgc.proofs.race.finish.end_children_of.Given as goal

abbrev pub invariant-loop-pair : goal.invariant-loop-pair
invariant-loop-pair g l = record {
  number : l.main.number ≡ l.fn.main.number;
  exits : WentOn l.fn.main.list (exits_of (take l.pair-index l.list)) l.main.list;
}
