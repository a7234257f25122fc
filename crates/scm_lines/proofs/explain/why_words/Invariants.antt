-- The words that are left fit what is left of the form exactly where all do.
use Rattle.std.proofs.Common.{◌≡◌, ◌≤◌, length}
use Rattle.scm_lines.specs.Fitting.{fits_words}
use Rattle.scm_lines.specs.Words.{words_of}
use Rattle.scm_lines.proofs.explain.why_words.Given as goal

abbrev pub invariant-loop-left : goal.invariant-loop-left
invariant-loop-left l = (fits_words l.left l.last (words_of l.rest) ≡ fits_words l.wanted l.last (words_of l.bytes)) × (length l.rest ≤ length l.bytes)

abbrev pub decreases-loop-left : goal.decreases-loop-left
decreases-loop-left l = length l.left
