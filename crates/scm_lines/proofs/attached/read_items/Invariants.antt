use Rattle.std.proofs.Common.{◌≡◌, ◌≤◌, length}
use Rattle.scm_lines.specs.Words.{words_of}
use Rattle.scm_lines.specs.Attached.{items_of}
use Rattle.scm_lines.proofs.AttachedLemmas.{items_before}
use Rattle.scm_lines.proofs.attached.read_items.Given as goal

abbrev pub invariant-loop-word : goal.invariant-loop-word
invariant-loop-word l = (items_before l.fds.items (items_of (words_of l.rest)) ≡ items_of (words_of l.bytes)) × (length l.fds.items ≤ 1024)

abbrev pub decreases-loop-word : goal.decreases-loop-word
decreases-loop-word l = length l.rest
