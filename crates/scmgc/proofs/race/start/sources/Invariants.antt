-- The sources of the first workers are there.
use Rattle.std.proofs.Common.{◌≡◌}
use Rattle.scmgc.specs.Race.{scripts_of}
use Rattle.scmgc.proofs.race.start.sources.Given as goal

abbrev pub invariant-loop-before : goal.invariant-loop-before
invariant-loop-before l = l.sources.items ≡ scripts_of l.before l.workers l.steps l.seed
