-- The row so far.
use Rattle.std.proofs.Common.{◌≡◌, ◌++◌, map, take}
use Rattle.scmgc.specs.Display.{shown_byte}
use Rattle.scmgc.proofs.play.show.push_line.Given as goal

abbrev pub invariant-loop-byte : goal.invariant-loop-byte
invariant-loop-byte l = l.shown.items ≡ l.fn.shown.items ++ map shown_byte (take l.byte-index l.bytes)
