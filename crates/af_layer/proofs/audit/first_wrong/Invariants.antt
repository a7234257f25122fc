use Rattle.std.proofs.Common.{◌≤◌, ℕ}
use Rattle.af_layer.specs.Audit.{IsAudited}
use Rattle.af_layer.proofs.audit.first_wrong.Given as goal

abbrev pub invariant-loop-before : goal.invariant-loop-before
invariant-loop-before l = (k : ℕ) → 1 ≤ k → k ≤ l.before → IsAudited l.log l.seats k
