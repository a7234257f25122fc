-- With the files that are left the text is whole.
use Rattle.std.proofs.Common.{◌≡◌, ◌++◌, length, string_bytes}
use Rattle.std.specs.List.{flat_map}
use Rattle.std.specs.FinMap as map
use Rattle.af_base.proofs.MapWalks.{above}
use Rattle.af_report.specs.Graph.{file_text, files_text, is_in}
use Rattle.af_report.proofs.picture.files.push_files.Given as goal

abbrev pub invariant-loop-file : goal.invariant-loop-file
invariant-loop-file l = string_bytes l.text ++ flat_map (λ e. file_text l.engine.world (is_in l.garbage e.0) e.0 e.1) (above l.last (map.entries l.engine.world.files)) ≡ string_bytes l.fn.text ++ files_text l.engine.world l.garbage

abbrev pub decreases-loop-file : goal.decreases-loop-file
decreases-loop-file l = length (above l.last (map.entries l.engine.world.files))
