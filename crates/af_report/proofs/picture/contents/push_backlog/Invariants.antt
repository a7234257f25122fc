-- The text so far.
use Rattle.std.proofs.Common.{◌≡◌, ◌++◌, string_bytes, take}
use Rattle.std.specs.List.{flat_map}
use Rattle.af_report.specs.Graph.{embryo_text}
use Rattle.af_report.proofs.picture.contents.push_backlog.Given as goal

abbrev pub invariant-loop-embryo : goal.invariant-loop-embryo
invariant-loop-embryo l = string_bytes l.text ≡ string_bytes l.fn.text ++ flat_map (embryo_text l.ino) (take l.embryo-index l.backlog)
