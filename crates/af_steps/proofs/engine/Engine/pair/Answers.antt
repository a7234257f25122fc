use Rattle.std.proofs.Common.{sym}
use Rattle.af_base.specs.declared.events.Step.TheVariants as step
use Rattle.af_steps.proofs.LookupRows.{is-there}
use Rattle.af_steps.proofs.Outcomes.{turned-down}
use Rattle.af_steps.proofs.engine.Engine.pair.Goals as goal

pub returns-in_err-lower-clause-refused : goal.returns-in_err-lower-clause-refused
returns-in_err-lower-clause-refused c =
    turned-down c.self.view_is c.args.pid (step.Pair c.args.kind) c.from_residual.result c.in_err-lower.field-0.0 c.from_residual.ensures.1 (c.in_err-lower.ensures.refused c.args.kind)

pub pair_at-requires : goal.pair_at-requires
pair_at-requires c =
    let found = c.in_ok-lower.ensures in record {
      full = found.room;
      there = is-there found.there;
      lowest = sym found.lowest;
    }
