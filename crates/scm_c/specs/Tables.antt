-- The answers and results of the calls on a descriptor.
use Rattle.std.specs.Prelude.{◌≡◌, ◌⊎◌, ◌<◌, ◌≤◌, ℕ, ℤ, pos, Some, None, ◌++◌}
use Rattle.std.specs.FinMap as map
use Rattle.af_base.specs.declared.errno.Errno.{Errno}
use Rattle.af_base.specs.declared.errno.Errno.TheVariants.{EBADF}
use Rattle.af_base.specs.World.{World}
use Rattle.af_base.specs.Places.{table_at}
use Rattle.af_base.specs.Ready.{ready}
use Rattle.af_base.specs.Refusals.{first_fit, ino_on, on_number, on_process}
use Rattle.scm_c.specs.Codes.{error_code}
use Rattle.scm_c.specs.declared.tables.CReady.{CReady}

-- The answer r is the lowest open descriptor of process p from this one on, and its file is
-- written; or none is open there, the answer says so, and nothing is written.
abbrev pub IsNextOpen : World → ℕ → ℕ → ℕ → ℤ → ℕ → Type 0
IsNextOpen w p from old r new =
    ((n : ℕ) × (r ≡ pos n) × (from ≤ n) × (table_at w p n ≡ Some new)
    × ((q : ℕ) → from ≤ q → q < n → table_at w p q ≡ None))
    ⊎ ((r ≡ error_code EBADF) × (new ≡ old) × ((q : ℕ) → from ≤ q → table_at w p q ≡ None))

-- The readiness of descriptor n of process p is written, with the answer 0; or the answer is the
-- error, and nothing is written (poll(2)).
abbrev pub IsPolled : World → ℕ → ℕ → CReady → ℤ → CReady → Type 0
IsPolled w p n old r new =
    ((r ≡ pos 0)
    × (ready w (ino_on w p n)
    ≡ Some (record { readable = new.readable; writable = new.writable; hung_up = new.hung_up })))
    ⊎ ((e : Errno)
    × (first_fit (on_process (map.get w.processes p) ++ on_number (table_at w p n)) ≡ Some e)
    × (r ≡ error_code e) × (new ≡ old))
