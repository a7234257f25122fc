-- A book may go to another thread, as its engine may, and any thread may share the lock round one.
use denote.RattleType.{RattleType}
use denote.Param.Send.{IsSend, IsSync, sendable}
use denote.Param.SendFields.{declared_send}
use Rattle.std.proofs.Crossing.{crosses}
use Rattle.af_steps.specs.contracts.engine.Engine as Engine
use Rattle.af_steps.proofs.SendSync.{engine_send}
use Rattle.af_base.proofs.events.Event.TheSendSync as event
use Rattle.af_base.proofs.events.Reply.TheSendSync as reply
use Rattle.af_layer.proofs.entry.Entry.TheSendSync as entry
use Rattle.af_layer.specs.contracts.book.Book as Book
use Rattle.af_layer.specs.contracts.book.Book.TheInside as BookInside
use Rattle.af_layer.specs.contracts.layer.Layer as Layer
use Rattle.af_layer.specs.contracts.origin.BookFrom as BookFrom
use Rattle.af_layer.specs.contracts.origin.BookFrom.TheInside as BookFromInside
use Rattle.af_layer.specs.declared.origin.Origin as Origin
use Rattle.af_layer.specs.contracts.shared.Shared as Shared

-- The fields of a book may go to another thread.
book_inside : IsSend BookInside.the_row
book_inside = declared_send BookInside.the_type (search (sendable, crosses) depth 20, (search sendable, (search (sendable, crosses) depth 20, (engine_send, (search (sendable, crosses, entry.the_send) depth 20, (search (sendable, crosses, event.the_send, reply.the_send) depth 20, tt))))))

-- So may a book.
book_send : IsSend Book.the_row
book_send = search (sendable, book_inside) depth 10

-- A layer may be shared whatever its origin is, as a book from there may go to another thread.
module _ (O : RattleType) (o : Origin.Ghosts O.Denot) where
  -- The book inside may go to another thread.
  book_from_inside : IsSend (BookFromInside.the_row O o)
  book_from_inside = declared_send (BookFromInside.the_type O o) (search (sendable, crosses, book_send) depth 20, (search (sendable, crosses) depth 20, tt))

  -- So may the book with its origin.
  book_from_send : IsSend (BookFrom.the_row O o)
  book_from_send = search (sendable, book_from_inside) depth 10

  -- So a layer may be used by several threads.
  pub layer_sync : IsSync (Layer.the_row O o)
  layer_sync = search (sendable, crosses, book_from_send) depth 20

-- A shared engine may be used by several threads.
pub shared_sync : IsSync (Shared.the_row Engine.the_row)
shared_sync = search (sendable, crosses, engine_send) depth 20
