use Rattle.std.proofs.Common.{subst}
use Rattle.af_base.specs.Pass.{Machine}
use Rattle.af_base.specs.Told.{AreSocketsOnce, TellsChanged}
use Rattle.af_base.proofs.Readiness.{tells-changed}
use Rattle.af_steps.proofs.engine.Engine.changed_sockets.Goals as goal

pub returns-clause-once : goal.returns-clause-once
returns-clause-once c = subst (λ (m : Machine). AreSocketsOnce m.world.files c.changed_sockets.result.now) c.self.view_is c.changed_sockets.ensures.once

pub returns-clause-changed : goal.returns-clause-changed
returns-clause-changed c =
    let e = c.self.inside.store in
    subst (λ (m : Machine). TellsChanged m.world m.since c.changed_sockets.result.now) c.self.view_is (tells-changed e.world e.since c.changed_sockets.result.now c.self.invariant.0.whole c.changed_sockets.ensures.changed)
