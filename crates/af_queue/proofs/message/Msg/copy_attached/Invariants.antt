-- The first files are copied.
use Rattle.std.proofs.Common.{◌≡◌, take}
use Rattle.af_queue.proofs.message.Msg.copy_attached.Given as goal

abbrev pub invariant-loop-file : goal.invariant-loop-file
invariant-loop-file l = l.files.items ≡ take l.file-index l.self.attached
