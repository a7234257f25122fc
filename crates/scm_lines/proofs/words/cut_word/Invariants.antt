use Rattle.std.proofs.Common.{◌≡◌, ◌≤◌, ◌-◌, length, take, drop}
use Rattle.scm_lines.specs.Words.{words_of}
use Rattle.scm_lines.proofs.WordLemmas.{words_after}
use Rattle.scm_lines.proofs.words.cut_word.Given as goal

abbrev pub invariant-loop-end : goal.invariant-loop-end
invariant-loop-end l = (words_of l.bytes ≡ words_after (take l.end l.bytes) (drop l.end l.bytes)) × (l.end ≤ length l.bytes) × (1 ≤ l.end)

abbrev pub decreases-loop-end : goal.decreases-loop-end
decreases-loop-end l = length l.bytes - l.end
