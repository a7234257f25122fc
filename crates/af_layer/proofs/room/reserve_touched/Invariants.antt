use Rattle.std.proofs.Common.{◌≡◌, ◌≤◌, vec_len, vec_capacity, take}
use Rattle.af_layer.proofs.room.reserve_touched.Given as goal

abbrev pub invariant-loop : goal.invariant-loop
invariant-loop g l = record {
  len : vec_len l.list ≡ l.counter;
  long : l.len ≤ l.counter;
  room : l.capacity ≤ vec_capacity l.list;
  same : take l.len l.list.items ≡ l.fn.list.items;
}
