use Rattle.std.proofs.Common.{◌≡◌, ◌++◌, map, take}
use Rattle.af_base.proofs.gathering.push_inos.Given as goal

abbrev pub invariant-loop-number : goal.invariant-loop-number
invariant-loop-number l = l.inos.items ≡ l.fn.inos.items ++ map (λ n. n.ino) (take l.number-index l.number-items)
