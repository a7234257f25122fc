-- The digits so far are the front of the first word, and have this value.
use Rattle.std.proofs.Common.{◌≡◌, ◌≤◌, ◌<◌, ◌-◌, ◌^◌, true, length, take, drop, get_or}
use Rattle.scm_lines.specs.Numbers.{all_digits, value_on}
use Rattle.scm_lines.specs.Words.{words_of}
use Rattle.scm_lines.proofs.WordLemmas.{words_after}
use Rattle.scm_lines.proofs.numbers.short_number_in.Given as goal

abbrev pub invariant-loop-end : goal.invariant-loop-end
invariant-loop-end l = record {
  words : words_of l.bytes ≡ words_after (take l.end l.start) (drop l.end l.start);
  value : l.value ≡ value_on 0 (take l.end l.start);
  digits : all_digits (take l.end l.start) ≡ true;
  first : 48 < get_or l.start 0 0;
  below : l.value < 10 ^ l.end;
  some : 1 ≤ l.end;
  few : l.end ≤ 9;
  within : l.end ≤ length l.start;
}

abbrev pub decreases-loop-end : goal.decreases-loop-end
decreases-loop-end l = length l.start - l.end
