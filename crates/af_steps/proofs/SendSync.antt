-- An engine may go to another thread, as its store may.
use denote.Param.Send.{IsSend, sendable}
use denote.Param.SendFields.{declared_send}
use Rattle.std.proofs.Crossing.{crosses}
use Rattle.af_collect.proofs.SendSync.{store_send}
use Rattle.af_steps.specs.contracts.engine.Engine as Engine
use Rattle.af_steps.specs.contracts.engine.Engine.TheInside as EngineInside

-- The fields of an engine may go to another thread.
engine_inside : IsSend EngineInside.the_row
engine_inside = declared_send EngineInside.the_type (search (sendable, crosses) depth 20, (store_send, (search sendable, tt)))

-- So may an engine.
pub engine_send : IsSend Engine.the_row
engine_send = search (sendable, engine_inside) depth 10
