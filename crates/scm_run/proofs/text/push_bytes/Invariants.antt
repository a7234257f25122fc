-- The text so far and what the rest adds to it, and the room that it took.
use Rattle.std.proofs.Common.{◌≡◌, ◌≤◌, ◌+◌, ◌*◌, ◌++◌, length, vec_capacity, vec_len}
use Rattle.std.specs.List.{flat_map}
use Rattle.af_report.specs.Texts.{escaped}
use Rattle.scm_run.proofs.text.push_bytes.Given as goal

abbrev pub invariant-loop-rest : goal.invariant-loop-rest
invariant-loop-rest l = record {
  bytes : l.text.items ++ flat_map escaped l.rest ≡ l.fn.text.items ++ flat_map escaped l.bytes;
  most : vec_len l.text + 3 * length l.rest ≤ vec_len l.fn.text + 3 * length l.bytes;
  room : vec_capacity l.fn.text ≤ vec_capacity l.text;
}

abbrev pub decreases-loop-rest : goal.decreases-loop-rest
decreases-loop-rest l = length l.rest
