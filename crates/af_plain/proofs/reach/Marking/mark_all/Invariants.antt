use Rattle.std.proofs.Common.{[], ◌∷◌, take}
use Rattle.std.specs.List.{flat_map}
use Rattle.af_plain.specs.Marking.{Marks}
use Rattle.af_plain.proofs.reach.Marking.mark_all.Given as goal

abbrev pub invariant-loop-ino : goal.invariant-loop-ino
invariant-loop-ino l = Marks l.fn.self l.self (flat_map (λ x. x ∷ []) (take l.ino-index l.inos))
