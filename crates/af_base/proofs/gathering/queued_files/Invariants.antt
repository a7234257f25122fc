use Rattle.std.proofs.Common.{◌≡◌, take}
use Rattle.std.specs.List.{flat_map}
use Rattle.af_base.specs.Listing.{file_of}
use Rattle.af_base.specs.Places.{attached_in, queue_of}
use Rattle.af_base.proofs.gathering.queued_files.Given as goal

abbrev pub invariant-loop-file : goal.invariant-loop-file
invariant-loop-file l = l.queued_files.items ≡ flat_map (λ x. attached_in (queue_of (file_of x))) (take l.file-index l.files)
