-- The rest to empty is emptied to the same.
use Rattle.std.proofs.Common.{◌≡◌, nat_eq}
use Rattle.af_base.specs.Pass.{emptied}
use Rattle.af_collect.proofs.LossOutcomes.{burden}
use Rattle.af_collect.proofs.holdings.Holdings.empty.Given as goal

abbrev pub invariant-loop : goal.invariant-loop
invariant-loop l = record {
  emptied : emptied (nat_eq l.file) l.self.world ≡ emptied (nat_eq l.file) l.initial.self.world;
  rows : l.self.rows ≡ l.initial.self.rows;
  marks : l.self.marks ≡ l.initial.self.marks;
  since : l.self.since ≡ l.initial.self.since;
}

abbrev pub decreases-loop : goal.decreases-loop
decreases-loop l = burden l.self.world
