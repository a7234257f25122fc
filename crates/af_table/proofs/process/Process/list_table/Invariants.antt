use Rattle.std.proofs.Common.{◌≡◌, ◌++◌, drop, map}
use Rattle.af_table.proofs.Numbers.{entry, taken_from}
use Rattle.af_table.proofs.process.Process.list_table.Given as goal

abbrev pub invariant-loop-number : goal.invariant-loop-number
invariant-loop-number l = map (entry (λ n. n.fd) (λ n. n.ino)) l.numbers.items ++ taken_from l.self-inside.taken.words l.number (drop l.number l.slot-items) ≡ taken_from l.self-inside.taken.words 0 l.slot-items
