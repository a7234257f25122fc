use Rattle.std.proofs.Common.{◌≡◌, ◌++◌, take}
use Rattle.std.specs.List.{flat_map}
use Rattle.af_base.proofs.gathering.push_queued.Given as goal

abbrev pub invariant-loop-message : goal.invariant-loop-message
invariant-loop-message l = l.inos.items ≡ l.fn.inos.items ++ flat_map (λ m. m.attached.items) (take l.message-index l.message-items)
