-- Some lines of the input were played, and are shown; however the others are played, all are.
use Rattle.std.proofs.Common.{◌≡◌, List, ℕ, Some}
use Rattle.scmgc.proofs.PlayedLines.{Leads}
use Rattle.scmgc.proofs.play.session.play.Given as goal

abbrev pub invariant-loop-number : goal.invariant-loop-number
invariant-loop-number g l =
    (input : List ℕ) → g.R.Read.remaining l.initial.reader ≡ Some input
    → Leads l.style input (g.R.Read.remaining l.reader) (g.W.Write.contents l.initial.writer) (g.W.Write.contents l.writer) l.number (record { machine = l.engine; version = l.version })
