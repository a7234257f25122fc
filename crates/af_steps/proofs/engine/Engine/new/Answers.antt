use Rattle.std.proofs.Common.{sym, subst, arith}
use Rattle.af_base.specs.Whole.{IsSound}
use Rattle.af_base.proofs.Soundness.{fresh_sound}
use Rattle.af_steps.proofs.engine.Engine.new.Goals as goal

pub invariant_of-result : goal.invariant_of-result
invariant_of-result c = (subst IsSound (sym c.new.ensures.world) fresh_sound, omega arith)

pub returns : goal.returns
returns c = λ i. record { world = c.new.ensures.world i; pass = c.new.ensures.pass i; last_pass = 0; since = c.new.ensures.since i }
