-- No file that was looked at so far carries a value.
use Rattle.std.proofs.Common.{◌≡◌, ℕ, take}
use Rattle.std.specs.Prelude.{IsTrue}
use Rattle.std.specs.FinMap as map
use Rattle.af_base.specs.Counts.{count_in}
use Rattle.jaywardrobe.proofs.owned.first_with.Given as goal

abbrev pub invariant-loop-ino : goal.invariant-loop-ino
invariant-loop-ino g l = (f : ℕ) → IsTrue (map.contains_key l.values.values f) → count_in f (take l.ino-index l.files) ≡ 0
