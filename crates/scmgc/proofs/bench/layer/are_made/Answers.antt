use denote.Param.Send.{sendable}
use Rattle.std.proofs.Crossing.{crosses}
use Rattle.af_layer.proofs.SendSync.{layer_sync}
use Rattle.scmgc.proofs.bench.layer.are_made.Goals as goal

pub for_each_mut-requires-sync-F : goal.for_each_mut-requires-sync-F
for_each_mut-requires-sync-F g c κs within = search (sendable, crosses, layer_sync) depth 40
