-- The files may go to another thread. The snapshots in their rows own nothing; for the rest there
-- are generated facts.
use denote.Param.Send.{IsSend, sendable}
use denote.Param.SendFields.{declared_send}
use Rattle.std.proofs.Crossing.{crosses, frees, send}
use Rattle.af_base.proofs.ids.FileRef.TheSendSync as file
use Rattle.slab.proofs.Slab.TheSendSync as slab
use Rattle.ordered_slab.proofs.SendSync.{values_send}
use Rattle.af_queue.proofs.chain.Node.TheSendSync as node
use Rattle.af_listen.proofs.names.Names.TheSendSync as names
use Rattle.af_desc.proofs.file_row.FileRow.TheSendSync as file_row
use Rattle.af_desc.specs.contracts.file_table.FileTable as FileTable
use Rattle.af_desc.specs.contracts.file_table.FileTable.TheInside as TableInside
use Rattle.af_desc.proofs.told_lists.ToldLists.TheSendSync as told_lists
use Rattle.af_desc.specs.contracts.files.Files as Files
use Rattle.af_desc.specs.contracts.files.Files.TheInside as FilesInside

-- The fields of the table of files may go to another thread.
table_inside : IsSend TableInside.the_row
table_inside =
    declared_send TableInside.the_type (
      values_send _ file_row.the_send,
      (
        slab.the_send _ _ _ node.the_send send frees,
        (told_lists.the_send, (search sendable, (search sendable, (search sendable, tt)))),
      ),
    )

-- So may that table.
table_send : IsSend FileTable.the_row
table_send = search (sendable, table_inside) depth 10

-- The fields of the files may go to another thread.
files_inside : IsSend FilesInside.the_row
files_inside =
    declared_send FilesInside.the_type (
      search (sendable, crosses) depth 20,
      (
        table_send,
        (
          search (sendable, crosses, file.the_send) depth 20,
          (
            search (sendable, crosses, file.the_send) depth 20,
            (search sendable, (search sendable, (search sendable, (search (sendable, crosses, names.the_send) depth 20, (search sendable, (search sendable, tt)))))),
          ),
        ),
      ),
    )

-- So may the files.
pub files_send : IsSend Files.the_row
files_send = search (sendable, files_inside) depth 10
