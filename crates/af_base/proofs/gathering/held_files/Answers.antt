use Rattle.std.proofs.Common.{rules, [], ◌++◌, ap, refl, ◌∙◌}
use Rattle.std.specs.List.{flat_map}
use Rattle.af_base.specs.Counts.{count_in, refs}
use Rattle.af_base.specs.Listing.{file_of, inos_of, listed}
use Rattle.af_base.specs.Places.{contents}
use Rattle.af_base.proofs.PlaceLists.{count_held, gathered, gathered_next, tallied}
use Rattle.af_base.proofs.gathering.held_files.Goals as goal

pub returns : goal.returns
returns c =
    let tables = c.args.tables.now in
    let files = c.args.files.now in
    let held_files = c.loop-file.held_files.items in
    let all = gathered (λ x. contents (file_of x)) files c.loop-file.file-index (flat_map inos_of tables) held_files (flat_map (λ x. contents (file_of x)) files) c.loop-file-test.false c.loop-file.invariant refl in
    tallied (refs (listed tables files)) held_files c.sort_unstable.new.self.items (λ f. ap (count_in f) all ∙ count_held tables files c.requires.tables c.requires.files f) c.sort_unstable.ensures.permutation c.sort_unstable.ensures.sorted

pub loop-table-preserved : goal.loop-table-preserved
loop-table-preserved c = gathered_next inos_of c.args.tables.now c.loop-table.table-index c.table-item.result [] c.loop-table.held_files.items c.push_inos.new.inos.items c.loop-table-test.true c.table-item.is c.loop-table.invariant (search rules)

pub loop-file-init : goal.loop-file-init
loop-file-init c = gathered inos_of c.args.tables.now c.loop-table.table-index [] c.loop-table.held_files.items (flat_map inos_of c.args.tables.now ++ []) c.loop-table-test.false c.loop-table.invariant (search rules)

pub loop-file-preserved : goal.loop-file-preserved
loop-file-preserved c = gathered_next (λ x. contents (file_of x)) c.args.files.now c.loop-file.file-index c.file-item.result (flat_map inos_of c.args.tables.now) c.loop-file.held_files.items c.push_contents.new.inos.items c.loop-file-test.true c.file-item.is c.loop-file.invariant (search rules)
