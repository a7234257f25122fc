-- The digits so far, and their value.
use Rattle.std.proofs.Common.{◌≡◌, ◌^◌, ◌<◌, drop}
use Rattle.scm_lines.specs.Numbers.{all_digits, value_on}
use Rattle.scm_lines.proofs.numbers.number.Given as goal

abbrev pub invariant-loop-b : goal.invariant-loop-b
invariant-loop-b l =
    (value_on l.value (drop l.b-index l.word) ≡ value_on 0 l.word) × (all_digits (drop l.b-index l.word) ≡ all_digits l.word) × (l.value < 10 ^ l.b-index)
