-- The scripts of the first workers are there.
use Rattle.std.proofs.Common.{◌≡◌, map}
use Rattle.scmgc.specs.Race.{scripts_of}
use Rattle.scmgc.proofs.race.start.scripts.Given as goal

abbrev pub invariant-loop-before : goal.invariant-loop-before
invariant-loop-before l = map (λ script. script.items) l.scripts.items ≡ scripts_of l.before l.workers l.steps l.seed
