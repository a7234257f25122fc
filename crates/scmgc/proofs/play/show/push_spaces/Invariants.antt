-- The spaces so far.
use Rattle.std.proofs.Common.{◌≡◌, ◌++◌, replicate}
use Rattle.scmgc.proofs.play.show.push_spaces.Given as goal

abbrev pub invariant-loop : goal.invariant-loop
invariant-loop l = l.shown.items ≡ l.fn.shown.items ++ replicate l.counter 32
