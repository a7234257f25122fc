-- The text so far, and the room that it took.
use Rattle.std.proofs.Common.{◌≡◌, ◌≤◌, ◌+◌, ◌*◌, ◌++◌, take, vec_capacity, vec_len}
use Rattle.std.specs.List.{flat_map}
use Rattle.scm_run.specs.Text.{spaced}
use Rattle.scm_run.proofs.text.push_numbers.Given as goal

abbrev pub invariant-loop-fd : goal.invariant-loop-fd
invariant-loop-fd l = record {
  bytes : l.text.items ≡ l.fn.text.items ++ flat_map spaced (take l.fd-index l.fds);
  most : vec_len l.text ≤ vec_len l.fn.text + 21 * l.fd-index;
  room : vec_capacity l.fn.text ≤ vec_capacity l.text;
}
