-- The numbers so far were written, and the rest is unchanged.
use Rattle.std.proofs.Common.{◌≡◌, ◌++◌, take, drop}
use Rattle.scm_c.proofs.told.write_files.Given as goal

abbrev pub invariant-loop-i : goal.invariant-loop-i
invariant-loop-i l = l.to ≡ take l.i l.from ++ drop l.i l.initial.to
