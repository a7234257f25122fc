use Rattle.std.proofs.Common.{◌≡◌, take}
use Rattle.std.specs.List.{flat_map}
use Rattle.af_base.specs.Listing.{file_of, payers_of}
use Rattle.af_base.specs.Places.{queue_of}
use Rattle.af_base.proofs.gathering.payers.Given as goal

abbrev pub invariant-loop-file : goal.invariant-loop-file
invariant-loop-file l = l.payers.items ≡ flat_map (λ x. flat_map payers_of (queue_of (file_of x))) (take l.file-index l.files)
