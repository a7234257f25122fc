use Rattle.std.proofs.Common.{◌≡◌, ◌++◌, map, take}
use Rattle.examples.specs.Places.{referred_files}
use Rattle.examples.proofs.audit.places.push_table.Given as goal

abbrev pub invariant-loop-number : goal.invariant-loop-number
invariant-loop-number l = referred_files l.places.items ≡ referred_files l.fn.places.items ++ map (λ n. n.ino) (take l.number-index l.number-items)
