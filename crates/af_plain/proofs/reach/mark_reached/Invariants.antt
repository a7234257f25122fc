use Rattle.std.proofs.Common.{◌+◌, length}
use Rattle.af_plain.specs.Marking.{count_outside}
use Rattle.af_plain.proofs.ReachedFiles.{Searches, all_held}
use Rattle.af_plain.proofs.reach.mark_reached.Given as goal

abbrev pub invariant-loop-ino : goal.invariant-loop-ino
invariant-loop-ino l = Searches l.listing l.marking

abbrev pub decreases-loop-ino : goal.decreases-loop-ino
decreases-loop-ino l = count_outside l.marking.marked (all_held l.files) + length l.marking.ahead.items
