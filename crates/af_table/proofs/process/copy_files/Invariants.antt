use Rattle.std.proofs.Common.{◌≡◌, ◌≤◌, length, take}
use Rattle.std.specs.Vec.{vec_capacity, vec_len}
use Rattle.af_table.proofs.process.copy_files.Given as goal

-- The first files are copied, and there is room for the others.
abbrev pub invariant-loop-file : goal.invariant-loop-file
invariant-loop-file l = record { done : l.row.items ≡ take l.file-index l.files; count : vec_len l.row ≡ l.file-index; room : length l.files ≤ vec_capacity l.row }
