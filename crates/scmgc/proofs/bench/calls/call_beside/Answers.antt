use denote.Param.Send.{sendable}
use Rattle.std.proofs.Crossing.{crosses}
use Rattle.af_layer.proofs.SendSync.{shared_sync}
use Rattle.scmgc.proofs.bench.calls.call_beside.Goals as goal

pub for_each_mut-requires-sync-F : goal.for_each_mut-requires-sync-F
for_each_mut-requires-sync-F g c κs within = search (sendable, crosses, shared_sync) depth 40
