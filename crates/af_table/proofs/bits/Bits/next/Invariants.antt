use Rattle.std.proofs.Common.{◌≡◌, ℕ, ◌+◌, ◌*◌, ◌^◌, ◌<◌, ◌≤◌, ◌-◌, not}
use Rattle.af_table.specs.Bits.{is_taken}
use Rattle.af_table.proofs.bits.Bits.next.Given as goal

-- No number before the bit `low` of word i is as wanted.
abbrev pub invariant-loop-i : goal.invariant-loop-i
invariant-loop-i l = record {
  low : l.low < 64;
  reached : l.from ≤ 64 * l.i + l.low;
  short : 64 * l.i < 2 ^ 32;
  none : (q : ℕ) → l.from ≤ q → q < 64 * l.i + l.low → is_taken l.self.words q ≡ not l.taken;
}

abbrev pub decreases-loop-i : goal.decreases-loop-i
decreases-loop-i l = l.end - 64 * l.i
