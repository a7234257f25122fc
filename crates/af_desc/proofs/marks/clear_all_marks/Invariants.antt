-- The files so far have a mark of no pass.
use Rattle.std.proofs.Common.{◌≡◌, ℕ, length}
use Rattle.std.specs.FinMap as map
use Rattle.af_base.proofs.MapWalks.{above}
use Rattle.af_desc.proofs.ClearedMarks.{AreWashed}
use Rattle.af_desc.proofs.marks.clear_all_marks.Given as goal

abbrev pub invariant-loop-file : goal.invariant-loop-file
invariant-loop-file l = record {
  washed : AreWashed l.rows.marks l.last;
  known : (f : ℕ) → map.contains_key l.rows.marks f ≡ map.contains_key l.fn.rows.marks f;
  len : map.len l.rows.marks ≡ map.len l.fn.rows.marks;
  rest : l.rows ≡ record l.fn.rows { marks = l.rows.marks };
}

abbrev pub decreases-loop-file : goal.decreases-loop-file
decreases-loop-file l = length (above l.last (map.entries l.rows.files))
