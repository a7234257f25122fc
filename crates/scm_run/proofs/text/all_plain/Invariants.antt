-- The bytes so far are plain just where the flag is set.
use Rattle.std.proofs.Common.{◌≡◌, ◌&&◌, drop}
use Rattle.scm_run.specs.Text.{all_plain}
use Rattle.scm_run.proofs.text.all_plain.Given as goal

abbrev pub invariant-loop-byte : goal.invariant-loop-byte
invariant-loop-byte l = (l.plain && all_plain (drop l.byte-index l.bytes)) ≡ all_plain l.bytes
