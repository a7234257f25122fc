-- A table in a row of slots under bits, and a process with its table. Definitions that name no
-- manual page are of this project's profile (docs/PROFILE.md).
use Rattle.std.specs.Prelude.{◌≡◌, ℕ, ◌+◌, ◌≤◌, List, [], ◌∷◌, false, if◌then◌else◌, slice_index_or}
use Rattle.std.specs.FinMap as map
use Rattle.af_base.specs.World.{Map, Process}
use Rattle.af_table.specs.Bits.{is_taken}

-- The numbers from k on whose bit is set, each with what its slot has.
unfoldable pub table_from : List ℕ → ℕ → List ℕ → Map ℕ
table_from words k [] = map.empty
table_from words k (f ∷ fs) = if is_taken words k then map.insert (table_from words (k + 1) fs) k f
    else table_from words (k + 1) fs

-- The map of a row of slots: each number below its length whose bit is set, with what its slot has.
unfoldable pub table_of : List ℕ → List ℕ → Map ℕ
table_of words slots = table_from words 0 slots

-- A process, and below which number it has room to install.
pub record ProcessView : Type 0 where
  pub process : Process
  pub row : ℕ

-- No bit is set from n on.
abbrev pub NoneFrom : ℕ → List ℕ → Type 0
NoneFrom n words = (q : ℕ) → n ≤ q → is_taken words q ≡ false

-- The slot of each free number is 0, which is no file's number.
abbrev pub AreBlank : List ℕ → List ℕ → Type 0
AreBlank words slots = (q : ℕ) → is_taken words q ≡ false → slice_index_or slots q 0 ≡ 0
