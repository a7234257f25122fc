-- A store may go to another thread. The snapshots in its parts own nothing; for the rest there are
-- generated facts.
use denote.Param.Send.{IsSend, sendable}
use denote.Param.SendFields.{declared_send}
use Rattle.std.proofs.Crossing.{crosses}
use Rattle.af_table.proofs.procs.Procs.TheSendSync as procs
use Rattle.af_ledger.proofs.ledger.Ledger.TheSendSync as ledger
use Rattle.af_desc.proofs.SendSync.{files_send}
use Rattle.af_collect.specs.contracts.holdings.Holdings as Holdings
use Rattle.af_collect.specs.contracts.holdings.Holdings.TheInside as HoldingsInside
use Rattle.af_collect.proofs.progress.PassProgress.TheSendSync as progress
use Rattle.af_collect.specs.contracts.store.Store as Store
use Rattle.af_collect.specs.contracts.store.Store.TheInside as StoreInside

-- The fields of the holdings may go to another thread.
holdings_inside : IsSend HoldingsInside.the_row
holdings_inside = declared_send HoldingsInside.the_type (search (sendable, crosses) depth 20, (files_send, (search (sendable, crosses, ledger.the_send) depth 20, (search (sendable, crosses, procs.the_send) depth 20, tt))))

-- So may the holdings.
holdings_send : IsSend Holdings.the_row
holdings_send = search (sendable, holdings_inside) depth 10

-- The fields of a store may go to another thread.
store_inside : IsSend StoreInside.the_row
store_inside = declared_send StoreInside.the_type (holdings_send, (search (sendable, crosses, holdings_send) depth 40, (search (sendable, crosses, progress.the_field_send) depth 40, (search (sendable, crosses) depth 20, tt))))

-- So may a store.
pub store_send : IsSend Store.the_row
store_send = search (sendable, store_inside) depth 10
