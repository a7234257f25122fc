-- How a handle lends its engine.
use Rattle.std.specs.Prelude.{Option, Some}
use Rattle.std.specs.Borrow.{Fml, LendsIf, MutBor}
use Rattle.af_base.specs.Pass.{Machine}
use Rattle.af_steps.specs.contracts.engine.Engine as engine
use Rattle.scm_c.specs.declared.handle.Handle.{Handle}
use Rattle.scm_c.specs.contracts.handle.Handle.{the_row}

-- The handle with this engine in place of its own.
abbrev pub with_engine : Handle → Machine → Handle
with_engine h m = record { at = h.at; alloc = h.alloc; shown = Some m }

-- Once the borrow `r` ends, the handle has the engine as `r` left it; at `None` it is unchanged.
abbrev pub lends_engine : MutBor Handle → Option (MutBor Machine) → Fml
lends_engine h r = LendsIf the_row engine.the_row h r (with_engine h.now) h.now
