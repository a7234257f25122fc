-- The text so far.
use Rattle.std.proofs.Common.{◌≡◌, ◌++◌, string_bytes, take}
use Rattle.std.specs.List.{flat_map}
use Rattle.af_report.specs.Graph.{attached_text}
use Rattle.af_report.proofs.picture.contents.push_message.Given as goal

abbrev pub invariant-loop-other : goal.invariant-loop-other
invariant-loop-other l = string_bytes l.text ≡ string_bytes l.fn.text ++ flat_map (attached_text l.ino l.user) (take l.other-index l.attached)
