-- The text so far.
use Rattle.std.proofs.Common.{◌≡◌, ◌++◌, string_bytes, take}
use Rattle.std.specs.List.{flat_map}
use Rattle.af_base.specs.Listing.{message_of}
use Rattle.af_report.specs.Graph.{message_text}
use Rattle.af_report.proofs.picture.contents.push_queue.Given as goal

abbrev pub invariant-loop-message : goal.invariant-loop-message
invariant-loop-message l = string_bytes l.text ≡ string_bytes l.fn.text ++ flat_map (λ m. message_text l.ino (message_of m)) (take l.message-index l.queue)
