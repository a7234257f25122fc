use Rattle.std.proofs.Common.{◌≡◌, ◌++◌, map, take}
use Rattle.af_base.proofs.gathering.push_payer.Given as goal

abbrev pub invariant-loop-ino : goal.invariant-loop-ino
invariant-loop-ino l = l.payers.items ≡ l.fn.payers.items ++ map (λ _. l.message.user) (take l._ino-index l._ino-items)
