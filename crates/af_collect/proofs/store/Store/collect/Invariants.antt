-- The pass that began with this world runs, and what it purged so far is garbage of it.
use Rattle.std.proofs.Common.{◌≡◌, ◌-◌, ◌*◌, ℕ, true}
use Rattle.std.specs.FinMap as map
use Rattle.af_base.specs.Whole.{IsSound}
use Rattle.af_collect.specs.Keeping.{is_running}
use Rattle.af_collect.specs.Purged.{ArePurged}
use Rattle.af_collect.proofs.store.Store.collect.Given as goal

abbrev pub invariant-loop-self : goal.invariant-loop-self
invariant-loop-self l = record {
  running : is_running l.self.progress.stage ≡ true;
  sound : IsSound l.self.world;
  begun : l.self.begun ≡ l.fn.self.world;
  since : l.self.since ≡ l.fn.self.since;
  purged : (n : ℕ) × ArePurged l.fn.self.world l.fn.self.world l.self.world n;
}

abbrev pub decreases-loop-self : goal.decreases-loop-self
decreases-loop-self l = 3 * map.len l.fn.self.world.files - l.self.progress.looked
