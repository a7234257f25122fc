use Rattle.std.proofs.Common.{◌≡◌, ◌≤◌, ◌+◌, length}
use Rattle.scm_lines.specs.Payload.{unescape}
use Rattle.scm_lines.proofs.FittingLemmas.{counted}
use Rattle.scm_lines.proofs.misfit.why_spelled.Given as goal

abbrev pub invariant-loop-rest : goal.invariant-loop-rest
invariant-loop-rest l = (counted l.count (unescape l.rest) ≡ counted 0 (unescape l.word)) × (l.count + length l.rest ≤ length l.word)

abbrev pub decreases-loop-rest : goal.decreases-loop-rest
decreases-loop-rest l = length l.rest
