-- The numbers looked at so far were taken over.
use Rattle.std.proofs.Common.{◌≡◌, take}
use Rattle.scm_c.proofs.messages.push_first.Given as goal

abbrev pub invariant-loop-fd : goal.invariant-loop-fd
invariant-loop-fd l = l.first.items ≡ take l.fd-index l.fd-items
