-- The lowest free numbers of a table.
use Rattle.std.specs.Prelude.{ℕ, List, not, take, filter}
use Rattle.std.specs.List.{range_with_len}
use Rattle.std.specs.FinMap as map
use Rattle.af_base.specs.World.{Process}

-- The free numbers, rising: those below the limit that are not open (getrlimit(2), RLIMIT_NOFILE).
abbrev pub free_numbers : Process → List ℕ
free_numbers p = filter (λ n. not (map.contains_key p.table n)) (range_with_len 0 p.limit)

-- The k lowest free numbers, or all of them where there are fewer (open(2): the lowest-numbered
-- descriptor not open).
abbrev pub lowest_free : ℕ → Process → List ℕ
lowest_free k p = take k (free_numbers p)
