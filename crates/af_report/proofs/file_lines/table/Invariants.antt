-- With the lines of the files that are left the text is whole.
use Rattle.std.proofs.Common.{◌≡◌, ◌++◌, length}
use Rattle.std.specs.List.{flat_map}
use Rattle.std.specs.FinMap as map
use Rattle.af_base.proofs.MapWalks.{above}
use Rattle.af_report.specs.Table.{table_text}
use Rattle.af_report.proofs.TableLines.{line}
use Rattle.af_report.proofs.file_lines.table.Given as goal

abbrev pub invariant-loop-file : goal.invariant-loop-file
invariant-loop-file l = l.text.items ++ flat_map (line l.engine.world) (above l.last (map.entries l.engine.world.files)) ≡ table_text l.engine.world

abbrev pub decreases-loop-file : goal.decreases-loop-file
decreases-loop-file l = length (above l.last (map.entries l.engine.world.files))
