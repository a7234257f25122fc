-- The first files are there, as far as they fit.
use Rattle.std.proofs.Common.{◌≡◌, ◌≤◌, ◌++◌, length, take}
use Rattle.af_queue.specs.declared.queue.TheConstants.{BATCH}
use Rattle.af_queue.proofs.queue.fill.Given as goal

abbrev pub invariant-loop-file : goal.invariant-loop-file
invariant-loop-file l = record {
  items : l.files.items ≡ l.initial.files.items ++ take l.file-index l.attached;
  fits : length l.files.items ≤ BATCH;
}
