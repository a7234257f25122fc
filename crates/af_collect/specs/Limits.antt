-- Bounds that calls ask for.
use Rattle.std.specs.Prelude.{◌≡◌, ◌<◌, ℕ, Some}
use Rattle.std.specs.FinMap as map
use Rattle.af_base.specs.World.{World, Process}
use Rattle.af_base.specs.Refusals.{process_at}

-- The number is below the limit of the process, if the process is there (getrlimit(2),
-- RLIMIT_NOFILE).
abbrev pub IsBelowLimit : World → ℕ → ℕ → Type 0
IsBelowLimit w p n = (q : Process) → map.get w.processes p ≡ Some q → n < q.limit

-- It is the user of some process (unix(7): charges are the sender's).
abbrev pub IsOfProcess : World → ℕ → Type 0
IsOfProcess w u =
    (p : ℕ) × (map.get w.processes p ≡ Some (process_at w p)) × (u ≡ (process_at w p).user)
