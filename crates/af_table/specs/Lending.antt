-- The processes after a borrow of one ends. Definitions that name no manual page are of this
-- project's profile (docs/PROFILE.md).
use Rattle.std.specs.Prelude.{ℕ, Option, Result}
use Rattle.std.specs.Borrow.{Fml, LendsIf, LendsIfOk, MutBor}
use Rattle.std.specs.FinMap as map
use Rattle.af_table.specs.Procs.{Procs}
use Rattle.af_table.specs.Slots.{ProcessView}
use Rattle.af_table.specs.contracts.process.Process as process
use Rattle.af_table.specs.contracts.procs.Procs as procs

-- The same with this process in place of p.
abbrev pub with_process : Procs → ℕ → ProcessView → Procs
with_process s p v = record s {
  processes = map.insert s.processes p v.process;
  rows = map.insert s.rows p v.row;
}

-- Once the borrow r ends, p is the last process written through r; at `None` all is as it was.
abbrev pub lends_process : MutBor Procs → ℕ → Option (MutBor ProcessView) → Fml
lends_process s p r = LendsIf procs.the_row process.the_row s r (with_process s.now p) s.now

-- The same of a result; at an error all is as it was.
abbrev pub lends_with_room : {E : Type 0} → MutBor Procs → ℕ → Result (MutBor ProcessView) E → Fml
lends_with_room s p r = LendsIfOk procs.the_row process.the_row s r (with_process s.now p) s.now
