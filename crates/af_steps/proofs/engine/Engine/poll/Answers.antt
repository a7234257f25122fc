use Rattle.std.proofs.Common.{subst}
use Rattle.af_base.specs.Pass.{Machine}
use Rattle.af_base.specs.World.{IsLive}
use Rattle.af_steps.proofs.LookupRows.{held}
use Rattle.af_steps.proofs.engine.Engine.poll.Goals as goal

pub ready_at-requires : goal.ready_at-requires
ready_at-requires c =
    let f = c.in_ok-file.file in
    subst (λ (m : Machine). IsLive m.world f) c.self.view_is (c.self.invariant.0.whole.tables_live f (held c.in_ok-file.ensures.found))
