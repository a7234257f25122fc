-- The text so far.
use Rattle.std.proofs.Common.{◌≡◌, ◌++◌, string_bytes, take}
use Rattle.std.specs.List.{flat_map}
use Rattle.af_report.specs.Graph.{descriptor_text}
use Rattle.af_report.proofs.picture.processes.push_numbers.Given as goal

abbrev pub invariant-loop-number : goal.invariant-loop-number
invariant-loop-number l = string_bytes l.text ≡ string_bytes l.fn.text ++ flat_map (λ n. descriptor_text l.pid n.fd n.ino) (take l.number-index l.numbers)
