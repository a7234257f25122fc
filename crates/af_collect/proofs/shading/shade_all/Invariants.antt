-- The rest, from the marks now, gives the marks of all.
use Rattle.std.proofs.Common.{◌≡◌, drop}
use Rattle.af_collect.specs.Keeping.{shaded_all}
use Rattle.af_collect.proofs.shading.shade_all.Given as goal

abbrev pub invariant-loop-file : goal.invariant-loop-file
invariant-loop-file l = record {
  frame : l.files ≡ record l.fn.files { marks = l.files.marks };
  marks : shaded_all (drop l.file-index l.taken) l.files.marks ≡ shaded_all l.taken l.fn.files.marks;
}
