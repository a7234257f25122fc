use Rattle.std.proofs.Common.{[], ◌∷◌, take}
use Rattle.std.specs.List.{flat_map}
use Rattle.af_plain.specs.Marking.{Marks}
use Rattle.af_plain.proofs.reach.Marking.mark_numbers.Given as goal

abbrev pub invariant-loop-number : goal.invariant-loop-number
invariant-loop-number l = Marks l.fn.self l.self (flat_map (λ n. n.ino ∷ []) (take l.number-index l.number-items))
