use Rattle.std.proofs.Common.{string_bytes}
use Rattle.af_base.specs.Listing.{process_of}
use Rattle.af_report.specs.Graph.{process_text}
use Rattle.af_report.proofs.Pieces.{piece_more}
use Rattle.af_report.proofs.picture.processes.push_processes.Goals as goal

pub loop-table-preserved : goal.loop-table-preserved
loop-table-preserved c =
    piece_more (λ t. process_text t.pid (process_of t)) c.args.tables.now c.loop-table.table-index c.table-item.result (string_bytes c.args.text.now) (string_bytes c.loop-table.text) (string_bytes c.push_process.new.text)
    c.loop-table-test.true c.table-item.is c.loop-table.invariant c.in_ok-push_process.ensures
