-- The bytes that left `rest` were appended, and no write has failed.
use Rattle.std.proofs.Common.{◌≡◌, ℕ, List, ◌++◌, false, length}
use Rattle.std.specs.Io.KnownBytes.{Appends}
use Rattle.scm_run.proofs.writes.write_whole.Given as goal

abbrev pub invariant-loop-rest : goal.invariant-loop-rest
invariant-loop-rest g l =
    (l.writer.has_failed ≡ false)
    × ((done : List ℕ) × (l.bytes ≡ done ++ l.rest) × Appends (g.W.Write.contents l.initial.writer.inner) (g.W.Write.contents l.writer.inner) done)

abbrev pub decreases-loop-rest : goal.decreases-loop-rest
decreases-loop-rest g l = length l.rest
