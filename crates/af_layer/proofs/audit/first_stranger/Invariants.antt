use Rattle.std.proofs.Common.{◌<◌, ℕ}
use Rattle.af_layer.specs.Audit.{IsKnown}
use Rattle.af_layer.proofs.audit.first_stranger.Given as goal

abbrev pub invariant-loop-i : goal.invariant-loop-i
invariant-loop-i l = (m : ℕ) → m < l.i → IsKnown l.count l.seats m
