use Rattle.std.proofs.Common.{◌≡◌, ◌++◌, take}
use Rattle.examples.specs.Places.{referred_files}
use Rattle.examples.proofs.audit.places.push_all.Given as goal

abbrev pub invariant-loop-file : goal.invariant-loop-file
invariant-loop-file l = referred_files l.places.items ≡ referred_files l.fn.places.items ++ take l.file-index l.files
