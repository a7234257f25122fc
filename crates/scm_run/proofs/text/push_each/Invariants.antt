-- The text so far, and the room that it took.
use Rattle.std.proofs.Common.{◌≡◌, ◌≤◌, ◌+◌, ◌*◌, ◌++◌, take, vec_capacity, vec_len}
use Rattle.std.specs.List.{flat_map}
use Rattle.af_report.specs.Texts.{escaped}
use Rattle.scm_run.proofs.text.push_each.Given as goal

abbrev pub invariant-loop-byte : goal.invariant-loop-byte
invariant-loop-byte l = record {
  bytes : l.text.items ≡ l.fn.text.items ++ flat_map escaped (take l.byte-index l.bytes);
  most : vec_len l.text ≤ vec_len l.fn.text + 3 * l.byte-index;
  room : vec_capacity l.fn.text ≤ vec_capacity l.text;
}
