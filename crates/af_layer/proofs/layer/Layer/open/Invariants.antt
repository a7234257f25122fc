use Rattle.std.proofs.Common.{◌≡◌, ◌+◌, ◌<◌, ◌≤◌, ℕ, [], vec_len, slice_index_or}
use Rattle.std.specs.Prelude.{vec_capacity}
use Rattle.af_layer.specs.Seats.{SeatView}
use Rattle.af_layer.proofs.layer.Layer.open.Given as goal

abbrev pub invariant-loop-before : goal.invariant-loop-before
invariant-loop-before l = record {
  len : vec_len l.list ≡ l.before;
  room : l.fn.seats ≤ vec_capacity l.list;
  each : (i : ℕ) (other : SeatView) → i < l.before → slice_index_or l.list.items i other ≡ record { number = i + 1; list = [] };
}
