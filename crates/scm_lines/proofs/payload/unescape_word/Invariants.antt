use Rattle.std.proofs.Common.{◌≡◌, ◌≤◌, ◌+◌, length}
use Rattle.smallvec.specs.SmallVec.{small_vec_len}
use Rattle.scm_lines.specs.Payload.{unescape}
use Rattle.scm_lines.proofs.PayloadLemmas.{bytes_before}
use Rattle.scm_lines.proofs.payload.unescape_word.Given as goal

abbrev pub invariant-loop-rest : goal.invariant-loop-rest
invariant-loop-rest l = record {
  said : bytes_before l.bytes.items (unescape l.rest) ≡ unescape l.word;
  room : small_vec_len l.bytes + length l.rest ≤ l.bytes.capacity;
}

abbrev pub decreases-loop-rest : goal.decreases-loop-rest
decreases-loop-rest l = length l.rest
