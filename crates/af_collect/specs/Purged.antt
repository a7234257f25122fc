-- The sockets that some units of a slice emptied.
use Rattle.std.specs.Prelude.{◌≤◌, ℕ, List, length, nat_eq}
use Rattle.std.specs.List.{list_any, All}
use Rattle.af_base.specs.World.{World}
use Rattle.af_base.specs.Pass.{Purges}
use Rattle.af_base.specs.Reached.{Garbage}

-- `now` is `old` with at most n files purged, all garbage of the begin (net/unix/garbage.c: queues
-- of garbage are emptied).
pub record ArePurged (begun old now : World) (n : ℕ) : Type 0 where
  pub files : List ℕ
  pub few : length files ≤ n
  pub of_garbage : All (Garbage begun) files
  pub purged : Purges (λ f. list_any (nat_eq f) files) old now
