use Rattle.std.proofs.Common.{◌≡◌, ℕ, ◌*◌, ◌≤◌, ◌<◌, false}
use Rattle.af_table.specs.Bits.{is_taken}
use Rattle.af_table.proofs.bits.Bits.end_below.Given as goal

-- No number behind word i is taken.
abbrev pub invariant-loop-i : goal.invariant-loop-i
invariant-loop-i l = (q : ℕ) → 64 * l.i ≤ q → q < l.below → is_taken l.self.words q ≡ false
