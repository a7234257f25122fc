use Rattle.std.proofs.Common.{◌≡◌, ◌++◌, take}
use Rattle.std.specs.List.{flat_map}
use Rattle.af_base.specs.Listing.{file_of, inos_of}
use Rattle.af_base.specs.Places.{contents}
use Rattle.af_base.proofs.gathering.held_files.Given as goal

abbrev pub invariant-loop-table : goal.invariant-loop-table
invariant-loop-table l = l.held_files.items ≡ flat_map inos_of (take l.table-index l.tables)

abbrev pub invariant-loop-file : goal.invariant-loop-file
invariant-loop-file l = l.held_files.items ≡ flat_map inos_of l.tables ++ flat_map (λ x. contents (file_of x)) (take l.file-index l.files)
