use Rattle.std.proofs.Common.{take}
use Rattle.std.specs.List.{flat_map}
use Rattle.af_plain.specs.Marking.{Marks}
use Rattle.af_plain.proofs.reach.Marking.mark_held.Given as goal

abbrev pub invariant-loop-message : goal.invariant-loop-message
invariant-loop-message l = Marks l.fn.self l.self (flat_map (λ m. m.attached.items) (take l.message-index l.message-items))
