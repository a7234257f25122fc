use Rattle.std.proofs.Common.{take}
use Rattle.std.specs.List.{flat_map}
use Rattle.af_plain.specs.Marking.{Marks}
use Rattle.af_base.specs.Listing.{inos_of}
use Rattle.af_plain.proofs.reach.Marking.mark_tables.Given as goal

abbrev pub invariant-loop-table : goal.invariant-loop-table
invariant-loop-table l = Marks l.fn.self l.self (flat_map inos_of (take l.table-index l.table-items))
