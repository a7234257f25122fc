-- When the numbers that are kept are the recounts. Definitions that name no manual page are of this
-- project's profile (docs/PROFILE.md).
use Rattle.std.specs.Prelude.{◌≡◌, ℕ, IsTrue, Some, false}
use Rattle.std.specs.FinMap as map
use Rattle.af_base.specs.World.{World, Process, is_live, IsLive}
use Rattle.af_base.specs.Counts.{tabled, inflight, waiting, charged, total}
use Rattle.af_base.specs.Whole.{IsWhole, IsWithin, IsProcessWithin}
use Rattle.af_base.specs.Refusals.{is_at_process_limit}
use Rattle.af_ledger.specs.Tally.{Tally, count_of, charge_of, has_count, is_user}

-- Each number kept is the recount of the world, and each process has a user who is kept.
pub record Agrees (w : World) (k : Tally) : Type 0 where
  pub tabled : (f : ℕ) → (count_of k f).tabled ≡ tabled w f
  pub inflight : (f : ℕ) → (count_of k f).inflight ≡ inflight w f
  pub waiting : (f : ℕ) → (count_of k f).waiting ≡ waiting w f
  pub charged : (u : ℕ) → charge_of k u ≡ charged w u
  pub total : k.total ≡ total w
  pub known : (p : ℕ) (q : Process) → map.get w.processes p ≡ Some q
      → IsTrue (is_user q.user k.users)

-- The invariant of a store: its world is well-formed and within the limits, each kept count is its
-- recount, and it keeps counts of just the live files.
pub record IsExact (w : World) (k : Tally) : Type 0 where
  pub whole : IsWhole w
  pub within : IsWithin w
  pub agrees : Agrees w k
  pub counted : (f : ℕ) → has_count k f ≡ is_live w f

-- A process can join the world: all counts are exact so far, there is room for it, it is within its
-- limits, each of its descriptors refers to a live file, and its user is known (fork(2); this
-- project's profile).
pub record Joins (w : World) (q : Process) (k : Tally) : Type 0 where
  pub exact : IsExact w k
  pub room : is_at_process_limit w ≡ false
  pub within : IsProcessWithin q
  pub live : (n f : ℕ) → map.get q.table n ≡ Some f → IsLive w f
  pub known : IsTrue (is_user q.user k.users)
