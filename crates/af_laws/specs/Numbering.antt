-- Laws of descriptors: which numbers of a table are given.
use Rattle.std.specs.Prelude.{◌≡◌, ◌↔◌, ◌<◌, ℕ, false, length, min, slice_index}
use Rattle.std.specs.List.{Contains}
use Rattle.std.specs.FinMap as map
use Rattle.af_base.specs.World.{Process}
use Rattle.af_base.specs.Table.{free_numbers, lowest_free}

-- The number is below the limit, and not open.
abbrev pub IsFree : Process → ℕ → Type 0
IsFree p n = (n < p.limit) × (map.contains_key p.table n ≡ false)

-- The free numbers are those below the limit that are not open, and no others.
abbrev pub FreeNumbersAreFree : Type 0
FreeNumbersAreFree = (p : Process) (n : ℕ) → Contains (free_numbers p) n ↔ IsFree p n

-- As many numbers are given as were asked for, or else all that there are.
abbrev pub AsManyAsThereAre : Type 0
AsManyAsThereAre =
    (k : ℕ) (p : Process) → length (lowest_free k p) ≡ min k (length (free_numbers p))

-- Numbers are given in rising order.
abbrev pub GivenInOrder : Type 0
GivenInOrder = (k : ℕ) (p : Process) (i j : ℕ) → i < j → j < length (lowest_free k p)
    → slice_index (lowest_free k p) i < slice_index (lowest_free k p) j

-- No number is given while a lower free one is passed over (open(2): the lowest-numbered descriptor
-- not open).
abbrev pub NoLowerIsPassedOver : Type 0
NoLowerIsPassedOver = (k : ℕ) (p : Process) (n m : ℕ) → Contains (lowest_free k p) n → IsFree p m
    → m < n → Contains (lowest_free k p) m
