use Rattle.std.proofs.Common.{◌≡◌, ◌++◌, take}
use Rattle.std.specs.List.{flat_map}
use Rattle.examples.specs.Places.{referred_files}
use Rattle.examples.proofs.audit.places.push_contents.Given as goal

abbrev pub invariant-loop-message : goal.invariant-loop-message
invariant-loop-message l = referred_files l.places.items ≡ referred_files l.fn.places.items ++ flat_map (λ m. m.attached.items) (take l.message-index l.message-items)
