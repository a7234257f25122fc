-- The rest of the table has the same meaning for the word.
use Rattle.std.proofs.Common.{◌≡◌, map, length}
use Rattle.scm_lines.specs.Keywords.{meaning}
use Rattle.scm_lines.proofs.keywords.meaning.Given as goal

abbrev pub invariant-loop-table : goal.invariant-loop-table
invariant-loop-table g l = meaning (map (λ entry. (entry.0.now, entry.1)) l.table) l.word ≡ meaning (map (λ entry. (entry.0.now, entry.1)) l.fn.table) l.word

abbrev pub decreases-loop-table : goal.decreases-loop-table
decreases-loop-table g l = length l.table
