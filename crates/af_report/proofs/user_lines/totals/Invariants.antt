-- With the lines of the users that are left the text is whole.
use Rattle.std.proofs.Common.{◌≡◌, ◌++◌, drop, string_bytes}
use Rattle.std.specs.List.{flat_map}
use Rattle.af_report.specs.Totals.{totals_text}
use Rattle.af_report.proofs.UserLines.{line}
use Rattle.af_report.proofs.user_lines.totals.Given as goal

abbrev pub invariant-loop-i : goal.invariant-loop-i
invariant-loop-i l = string_bytes l.text ++ flat_map (line l.engine.world) (drop l.i l.engine.world.users) ≡ totals_text l.engine.world
