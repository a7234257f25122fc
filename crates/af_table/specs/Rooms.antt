-- Which descriptors have room in any case: each open one, and those below it. The definition that
-- names no manual page is of this project's profile (docs/PROFILE.md).
use Rattle.std.specs.Prelude.{◌≤◌, ℕ, IsTrue}
use Rattle.std.specs.FinMap as map
use Rattle.af_base.specs.World.{Map}

-- In this table a number from n on is open.
abbrev pub IsOpenFrom : Map ℕ → ℕ → Type 0
IsOpenFrom table n = (k : ℕ) × (n ≤ k) × IsTrue (map.contains_key table k)
