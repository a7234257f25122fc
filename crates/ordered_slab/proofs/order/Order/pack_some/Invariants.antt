use Rattle.std.proofs.Common.{◌≡◌, ◌≤◌}
use Rattle.ordered_slab.specs.Rows.{KeepsLive}
use Rattle.ordered_slab.specs.SlabValues.{keys_of}
use Rattle.ordered_slab.proofs.order.Order.pack_some.Given as goal

-- Each live row has stayed.
abbrev pub invariant-loop : goal.invariant-loop
invariant-loop g l = KeepsLive (keys_of l.slab) l.fn.self.rows l.self.rows × (l.self.last ≡ l.fn.self.last) × (l.fn.self.room ≤ l.self.room)
