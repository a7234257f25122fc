-- The text so far.
use Rattle.std.proofs.Common.{◌≡◌, ◌++◌, string_bytes, take}
use Rattle.std.specs.List.{flat_map}
use Rattle.af_base.specs.Listing.{file_of}
use Rattle.af_report.specs.Graph.{contents_text}
use Rattle.af_report.proofs.picture.contents.push_all_waiting.Given as goal

abbrev pub invariant-loop-file : goal.invariant-loop-file
invariant-loop-file l = string_bytes l.text ≡ string_bytes l.fn.text ++ flat_map (λ x. contents_text x.ino (file_of x)) (take l.file-index l.files)
