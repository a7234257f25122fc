use Rattle.std.proofs.Common.{◌≢◌, ◌<◌, ℕ}
use Rattle.af_layer.specs.Audit.{number_at}
use Rattle.af_layer.proofs.audit.is_before.Given as goal

abbrev pub invariant-loop-j : goal.invariant-loop-j
invariant-loop-j l = (i : ℕ) → i < l.j → number_at l.seats i ≢ l.number
