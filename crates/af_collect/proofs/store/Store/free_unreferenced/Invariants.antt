-- The rest settles to the same as the whole.
use Rattle.std.proofs.Common.{◌≡◌}
use Rattle.af_base.specs.World.{World}
use Rattle.af_base.specs.Unheld.{Settles}
use Rattle.af_collect.proofs.LossOutcomes.{burden, freed_from}
use Rattle.af_collect.proofs.store.Store.free_unreferenced.Given as goal

abbrev pub invariant-loop-file : goal.invariant-loop-file
invariant-loop-file l = record {
  settles : (end : World) → Settles l.self.world end → Settles l.fn.self.world end;
  frame : l.self ≡ freed_from l.self l.fn.self;
}

abbrev pub decreases-loop-file : goal.decreases-loop-file
decreases-loop-file l = burden l.self.world
