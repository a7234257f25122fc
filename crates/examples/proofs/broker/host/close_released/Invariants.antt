-- Each round takes one value.
use Rattle.std.specs.FinMap as map
use Rattle.examples.proofs.broker.host.close_released.Given as goal

abbrev pub decreases-loop-file : goal.decreases-loop-file
decreases-loop-file l = map.len l.engine.values
