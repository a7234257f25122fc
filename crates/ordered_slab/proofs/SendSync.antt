-- Values under numbers may go to another thread. The snapshots in their order own nothing; for the
-- rest there are generated facts.
use denote.RattleType.{RattleType}
use denote.Param.Send.{IsSend, sendable}
use denote.Param.SendFields.{declared_send}
use Rattle.std.proofs.Crossing.{crosses, frees, send}
use Rattle.slab.proofs.Slab.TheSendSync as slab
use Rattle.ordered_slab.proofs.row.OrderRow.TheSendSync as row
use Rattle.ordered_slab.proofs.numbered_value.NumberedValue.TheSendSync as value
use Rattle.ordered_slab.specs.contracts.order.Order as Order
use Rattle.ordered_slab.specs.contracts.order.Order.TheInside as OrderInside
use Rattle.ordered_slab.specs.contracts.numbered.OrderedSlab as OrderedSlab
use Rattle.ordered_slab.specs.contracts.numbered.OrderedSlab.TheInside as OrderedSlabInside

-- The fields of an order may go to another thread.
order_inside : IsSend OrderInside.the_row
order_inside = declared_send OrderInside.the_type (search sendable, (search (sendable, crosses, row.the_send) depth 20, (search sendable, (search (sendable, crosses) depth 20, tt))))

-- So may an order.
order_send : IsSend Order.the_row
order_send = search (sendable, order_inside) depth 10

-- Values under numbers may go to another thread, as each value may.
module _ (T : RattleType) (each : IsSend T) where
  -- Their order and their slab may.
  values_inside : IsSend (OrderedSlabInside.the_row T)
  values_inside = declared_send (OrderedSlabInside.the_type T) (order_send, (slab.the_send _ _ _ (value.the_send T each) send frees, tt))

  -- So may they.
  pub values_send : IsSend (OrderedSlab.the_row T)
  values_send = search (sendable, values_inside) depth 10
