-- The parts of the first sources are made; the other sources are as they were.
use Rattle.std.proofs.Common.{◌≡◌, ◌<◌, ◌≤◌, ℕ, [], drop, length, map, slice_index_or, take}
use Rattle.scmgc.proofs.race.start.next_parts.Given as goal

abbrev pub invariant-loop-source : goal.invariant-loop-source
invariant-loop-source l = record {
  made_count : length l.parts.items ≡ l.source-index;
  left_count : length l.sources ≡ length l.fn.sources;
  made : (i : ℕ) → i < l.source-index → slice_index_or (map (λ part. part.items) l.parts.items) i [] ≡ take l.count (slice_index_or l.fn.sources i []);
  left : (i : ℕ) → i < l.source-index → slice_index_or l.sources i [] ≡ drop l.count (slice_index_or l.fn.sources i []);
  rest : (i : ℕ) → l.source-index ≤ i → slice_index_or l.sources i [] ≡ slice_index_or l.fn.sources i [];
}
