-- Rows of numbers that rise. Definitions that name no manual page are this project's own.
use Rattle.std.specs.Prelude.{◌≡◌, ℕ, ◌<◌, ◌≤◌, List, length, Some, slice_index_or}
use Rattle.std.specs.FinMap as map
use Rattle.af_base.specs.World.{Map}
use Rattle.ordered_slab.specs.OrderView.{OrderRowView}

-- The row at a position, and that of no number past the end.
abbrev pub row_at : List OrderRowView → ℕ → OrderRowView
row_at rows i = slice_index_or rows i (record { ino = 0; key = 0 })

-- The numbers rise.
abbrev pub Rise : List OrderRowView → Type 0
Rise rows = (i j : ℕ) → i < j → j < length rows → (row_at rows i).ino < (row_at rows j).ino

-- No number is above this one.
abbrev pub AllUpTo : ℕ → List OrderRowView → Type 0
AllUpTo last rows = (i : ℕ) → i < length rows → (row_at rows i).ino ≤ last

-- The number has a row with this key.
abbrev pub HasRow : List OrderRowView → ℕ → ℕ → Type 0
HasRow rows q k = (i : ℕ) × (i < length rows) × (row_at rows i ≡ record { ino = q; key = k })

-- Each number has a row with its key. Other rows are dead.
abbrev pub AreListed : List OrderRowView → Map ℕ → Type 0
AreListed rows m = (q k : ℕ) → map.get m q ≡ Some k → HasRow rows q k

-- Each row with its number's key stays.
abbrev pub KeepsLive : Map ℕ → List OrderRowView → List OrderRowView → Type 0
KeepsLive m old new = (q k : ℕ) → map.get m q ≡ Some k → HasRow old q k → HasRow new q k
