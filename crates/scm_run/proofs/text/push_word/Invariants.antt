-- The text so far, and the room that it took.
use Rattle.std.proofs.Common.{◌≡◌, ◌≤◌, ◌+◌, ◌++◌, take, vec_capacity, vec_len}
use Rattle.scm_run.proofs.text.push_word.Given as goal

abbrev pub invariant-loop-byte : goal.invariant-loop-byte
invariant-loop-byte l = record {
  bytes : l.text.items ≡ l.fn.text.items ++ take l.byte-index l.word;
  most : vec_len l.text ≤ vec_len l.fn.text + l.byte-index;
  room : vec_capacity l.fn.text ≤ vec_capacity l.text;
}
