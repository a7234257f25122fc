-- The generator has been jumped as often as the loop was gone through.
use Rattle.std.proofs.Common.{◌≡◌}
use Rattle.rand_xoshiro.specs.Xoshiro256.{of_seed}
use Rattle.rand_xoshiro.specs.SplitMix64.{splitmix_seed}
use Rattle.scmgc.specs.Race.Scripts.{jumped}
use Rattle.scmgc.proofs.race.workload.script.generator.Given as goal

abbrev pub invariant-jumps : goal.invariant-jumps
invariant-jumps l = l.rng ≡ jumped l.counter (of_seed (splitmix_seed 32 l.seed))
