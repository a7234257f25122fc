use Rattle.std.proofs.Common.{◌≡◌, ◌<◌, ℕ, []}
use Rattle.af_layer.specs.Audit.{list_at, number_at}
use Rattle.af_layer.proofs.checkpoint.empty_lists.Given as goal

abbrev pub invariant-loop-seat : goal.invariant-loop-seat
invariant-loop-seat l = record {
  numbers : (i : ℕ) → number_at l.seats i ≡ number_at l.fn.seats i;
  lists : (i : ℕ) → i < l.seat-index → list_at l.seats i ≡ [];
}
