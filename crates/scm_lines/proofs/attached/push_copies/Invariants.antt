use Rattle.std.proofs.Common.{◌≡◌, ◌++◌, replicate}
use Rattle.scm_lines.proofs.attached.push_copies.Given as goal

abbrev pub invariant-loop : goal.invariant-loop
invariant-loop l = l.fds.items ≡ l.fn.fds.items ++ replicate l.counter l.fd
