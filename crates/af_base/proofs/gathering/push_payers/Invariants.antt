use Rattle.std.proofs.Common.{◌≡◌, ◌++◌, take}
use Rattle.std.specs.List.{flat_map}
use Rattle.af_base.specs.Listing.{message_of, payers_of}
use Rattle.af_base.proofs.gathering.push_payers.Given as goal

abbrev pub invariant-loop-message : goal.invariant-loop-message
invariant-loop-message l = l.payers.items ≡ l.fn.payers.items ++ flat_map (λ m. payers_of (message_of m)) (take l.message-index l.message-items)
