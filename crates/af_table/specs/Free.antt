-- The free numbers of a process that are left from some number on.
use Rattle.std.specs.Prelude.{ℕ, ◌-◌, List, not, filter}
use Rattle.std.specs.List.{range_with_len}
use Rattle.std.specs.FinMap as map
use Rattle.af_base.specs.World.{Process}

-- Those from k on, rising: below the limit, and not open (open(2): the first of them is the
-- lowest).
unfoldable pub free_from : ℕ → Process → List ℕ
free_from k p = filter (λ n. not (map.contains_key p.table n)) (range_with_len k (p.limit - k))
