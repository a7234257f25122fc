-- The text so far.
use Rattle.std.proofs.Common.{◌≡◌, ◌++◌, string_bytes, take}
use Rattle.std.specs.List.{flat_map}
use Rattle.af_base.specs.Listing.{process_of}
use Rattle.af_report.specs.Graph.{process_text}
use Rattle.af_report.proofs.picture.processes.push_processes.Given as goal

abbrev pub invariant-loop-table : goal.invariant-loop-table
invariant-loop-table l = string_bytes l.text ≡ string_bytes l.fn.text ++ flat_map (λ t. process_text t.pid (process_of t)) (take l.table-index l.tables)
