-- The bytes before the rest were taken, and no write has failed.
use Rattle.std.proofs.Common.{◌≡◌, ℕ, List, ◌++◌, Option, false, length}
use Rattle.scm_run.specs.Progress.{Ran}
use Rattle.scm_run.proofs.run.ScriptRun.do_lines.Given as goal

abbrev pub invariant-loop-at : goal.invariant-loop-at
invariant-loop-at g l =
    (l.writer.has_failed ≡ false)
    × ((front : List ℕ) × (l.bytes ≡ front ++ l.rest)
    × ((taken : List ℕ) (before : Option (List ℕ)) → Ran taken before (g.W.Write.contents l.initial.writer.inner) l.initial.self
    → Ran (taken ++ front) before (g.W.Write.contents l.writer.inner) l.self))

abbrev pub decreases-loop-at : goal.decreases-loop-at
decreases-loop-at g l = length l.rest
