use Rattle.std.proofs.Common.{◌≡◌, ◌&&◌, drop}
use Rattle.scm_lines.specs.Words.{all_printable}
use Rattle.scm_lines.proofs.words.all_printable.Given as goal

abbrev pub invariant-loop-b : goal.invariant-loop-b
invariant-loop-b l = (l.all && all_printable (drop l.b-index l.bytes)) ≡ all_printable l.bytes
