use Rattle.std.proofs.Common.{ap}
use Rattle.slab.specs.Slab as slots
use Rattle.af_desc.proofs.FileTableInvariant.{kept-roomed}
use Rattle.af_desc.proofs.file_table.FileTable.room_for_message.Goals as goal

-- No message moves.
pub invariant_of-self : goal.invariant_of-self
invariant_of-self c = kept-roomed c.self.invariant c.room.new.nodes (λ k. ap (λ s. slots.get s k) c.room.ensures.rest)
