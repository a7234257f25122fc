-- So many events were made, and the others are left.
use Rattle.std.proofs.Common.{◌≡◌, drop, take}
use Rattle.scmgc.proofs.race.workload.source.Source.part.Given as goal

abbrev pub invariant-events : goal.invariant-events
invariant-events l = record {
  made : l.part.items ≡ take l.counter l.fn.self;
  left : l.self ≡ drop l.counter l.fn.self;
}
