-- Some bytes were read, and what was done is the run of them, whose text is written; no stream has
-- failed.
use Rattle.std.proofs.Common.{◌≡◌, List, ℕ, [], false}
use Rattle.std.specs.Io.KnownBytes.{Consumes}
use Rattle.scm_run.specs.Progress.{Ran}
use Rattle.scm_run.proofs.run.ScriptRun.run_to_end.Given as goal

abbrev pub invariant-loop : goal.invariant-loop
invariant-loop g l =
    (l.reader.has_failed ≡ false) × (l.writer.has_failed ≡ false) × (l.self.gathered ≡ [])
    × ((taken : List ℕ) × Consumes (g.R.Read.remaining l.initial.reader.inner) (g.R.Read.remaining l.reader.inner) taken
    × Ran taken (g.W.Write.contents l.initial.writer.inner) (g.W.Write.contents l.writer.inner) l.self)
