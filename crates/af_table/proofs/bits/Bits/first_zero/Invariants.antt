use Rattle.std.proofs.Common.{◌≡◌, ℕ, ◌*◌, ◌<◌, true}
use Rattle.af_table.specs.Bits.{is_taken}
use Rattle.af_table.proofs.bits.Bits.first_zero.Given as goal

-- All numbers before word i are taken.
abbrev pub invariant-loop-i : goal.invariant-loop-i
invariant-loop-i l = (q : ℕ) → q < 64 * l.i → is_taken l.self.words q ≡ true
