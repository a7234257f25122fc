use Rattle.std.proofs.Common.{subst}
use Rattle.af_base.specs.Whole.{IsSound}
use Rattle.af_steps.proofs.engine.Engine.lemma_is_sound.Goals as goal

pub returns-clause-sound : goal.returns-clause-sound
returns-clause-sound c = subst (λ m. IsSound m.world) c.self.view_is c.self.invariant.0
