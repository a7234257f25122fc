use Rattle.std.proofs.Common.{◌≡◌, ℕ, ◌<◌, ◌≤◌}
use Rattle.std.specs.Prelude.{Some}
use Rattle.std.specs.FinMap as map
use Rattle.ordered_slab.specs.Rows.{row_at}
use Rattle.ordered_slab.specs.SlabValues.{keys_of}
use Rattle.ordered_slab.proofs.order.first_live.Given as goal

abbrev pub invariant-loop-at : goal.invariant-loop-at
invariant-loop-at g l = (j q k : ℕ) → l.from ≤ j → j < l.at → row_at l.rows j ≡ record { ino = q; key = k } → map.get (keys_of l.slab) q ≡ Some k → ⊥
