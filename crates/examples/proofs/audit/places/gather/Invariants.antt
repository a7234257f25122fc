use Rattle.std.proofs.Common.{◌≡◌, ◌++◌, take}
use Rattle.std.specs.List.{flat_map}
use Rattle.jaywardrobe.specs.Listing.{file_of, inos_of}
use Rattle.jaywardrobe.specs.Places.{contents}
use Rattle.examples.specs.Places.{referred_files}
use Rattle.examples.proofs.audit.places.gather.Given as goal

abbrev pub invariant-loop-table : goal.invariant-loop-table
invariant-loop-table l = referred_files l.places.items ≡ flat_map inos_of (take l.table-index l.tables)

abbrev pub invariant-loop-file : goal.invariant-loop-file
invariant-loop-file l = referred_files l.places.items ≡ flat_map inos_of l.tables ++ flat_map (λ x. contents (file_of x)) (take l.file-index l.files)
