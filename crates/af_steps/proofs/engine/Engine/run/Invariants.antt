use Rattle.std.proofs.Common.{◌≡◌, length}
use Rattle.std.specs.List.{zip}
use Rattle.af_base.specs.Run.{Run}
use Rattle.af_steps.proofs.engine.Engine.run.Given as goal

abbrev pub invariant-loop-event : goal.invariant-loop-event
invariant-loop-event l = (length l.done.items ≡ l.event-index) × Run l.fn.self (zip l.events l.done.items) l.self
