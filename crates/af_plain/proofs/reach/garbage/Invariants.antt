use Rattle.std.proofs.Common.{◌≡◌, map, take}
use Rattle.std.specs.Prelude.{not}
use Rattle.std.specs.List.{filter}
use Rattle.std.specs.Ordering.{nat_cmp}
use Rattle.std.specs.BTreeSet as tree
use Rattle.af_plain.proofs.reach.garbage.Given as goal

abbrev pub invariant-loop-file : goal.invariant-loop-file
invariant-loop-file l = l.found.items ≡ filter (λ f. not (tree.contains nat_cmp l.marked f)) (map (λ x. x.ino) (take l.file-index l.file-items))
