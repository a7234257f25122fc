-- The children of the first seats have exited.
use Rattle.std.proofs.Common.{◌≡◌, take}
use Rattle.af_layer.specs.Drive.{WentOn}
use Rattle.scmgc.specs.Race.{all_exits_of}
use Rattle.scmgc.proofs.race.finish.end_children.Given as goal

abbrev pub invariant-loop-seat : goal.invariant-loop-seat
invariant-loop-seat g l = record {
  number : l.main.number ≡ l.fn.main.number;
  exits : WentOn l.fn.main.list (all_exits_of (take l.seat-index l.seats)) l.main.list;
}
