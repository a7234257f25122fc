use Rattle.std.specs.List.{flat_map}
use Rattle.af_plain.proofs.SearchInvariant.{marks-end, marks-more}
use Rattle.af_base.specs.Listing.{inos_of}
use Rattle.af_plain.proofs.ReachedFiles.{tabled_listed}
use Rattle.af_plain.proofs.reach.Marking.mark_tables.Goals as goal

pub loop-table-preserved : goal.loop-table-preserved
loop-table-preserved c = marks-more inos_of c.tables-table-items.result.now c.loop-table.table-index c.args.self.now c.loop-table.self c.mark_numbers.new.self c.table-item.result c.loop-table-test.true c.table-item.is c.loop-table.invariant c.in_ok-mark_numbers.ensures

pub returns : goal.returns
returns c =
    let tables = c.tables-table-items.result.now in
    (flat_map inos_of tables, tabled_listed c.args.listing.now tables c.tables-table-items.ensures.value c.tables-table-items.ensures.ordered, marks-end inos_of tables c.loop-table.table-index c.args.self.now c.loop-table.self c.loop-table-test.false c.loop-table.invariant)
