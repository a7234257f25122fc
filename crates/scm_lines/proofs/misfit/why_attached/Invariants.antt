use Rattle.std.proofs.Common.{◌≡◌, ◌≤◌, length}
use Rattle.scm_lines.specs.Words.{words_of}
use Rattle.scm_lines.specs.Attached.{items_of}
use Rattle.scm_lines.proofs.FittingLemmas.{counted}
use Rattle.scm_lines.proofs.misfit.why_attached.Given as goal

abbrev pub invariant-loop-word : goal.invariant-loop-word
invariant-loop-word l = (counted l.count (items_of (words_of l.rest)) ≡ counted 0 (items_of (words_of l.bytes))) × (l.count ≤ 1024) × (length l.rest ≤ length l.bytes)

abbrev pub decreases-loop-word : goal.decreases-loop-word
decreases-loop-word l = length l.rest
