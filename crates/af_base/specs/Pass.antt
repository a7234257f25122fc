-- The collector: what a pass remembers, and what it may do. Definitions that name no manual page
-- are of this project's profile (docs/PROFILE.md).
use Rattle.std.specs.Prelude.{◌≡◌, ◌⊎◌, ◌↔◌, ℕ, ◌+◌, ◌*◌, ◌≤◌, Bool, true, List, [], length, nat_eq, nat_lt, min, if◌then◌else◌, MatchBool, ◌||◌}
use Rattle.std.specs.List.{list_any, All}
use Rattle.std.specs.FinMap as map
use Rattle.af_base.specs.declared.errno.Errno.TheVariants.{EBUSY, EIDLE, EINVAL}
use Rattle.af_base.specs.declared.events.Reply.{Reply}
use Rattle.af_base.specs.declared.events.Reply.TheVariants as reply
use Rattle.af_base.specs.declared.limits.TheConstants.{MAX_BUDGET, MAX_PASS}
use Rattle.af_base.specs.World.{World, File, Plain, AsSocket, IsLive, Since}
use Rattle.af_base.specs.Unheld.{Settles, map_entries}
use Rattle.af_base.specs.Reached.{Garbage, IsGarbageCount}

-- The pass: none, or one that runs, with the world at its begin and the budgets spent since. The
-- garbage, the live files and the places of that moment follow from that world.
pub data Pass : Type 0 where
  Idle : Pass
  Running : (begun : World) → (spent : ℕ) → Pass

-- A pass that runs has spent at most three units for each file of its begin (this project's
-- profile: what a budget counts).
abbrev pub IsInTime : Pass → Type 0
IsInTime Idle = Unit {0}
IsInTime (Running begun spent) = spent ≤ 3 * map.len begun.files

-- The machine: the world, the pass, the number of the last pass (0 at first), and since when freed
-- files and changed readiness are listed.
pub record Machine : Type 0 where
  pub world : World
  pub pass : Pass
  pub last_pass : ℕ
  pub since : Since

-- A file with nothing in its queue and its backlog.
abbrev pub empty_file : File → File
empty_file Plain = Plain
empty_file (AsSocket s) = AsSocket (record s { queue = []; backlog = [] })

-- The world with the queues and backlogs of the files that pass the test emptied.
abbrev pub emptied : (ℕ → Bool) → World → World
emptied test w = record w {
  files = map_entries (λ f x. if test f then empty_file x else x) (map.entries w.files);
}

-- `new` is `old` purged: the queues and backlogs of the files that pass the test emptied, and then
-- settled (net/unix/garbage.c: queues of garbage are emptied).
abbrev pub Purges : (ℕ → Bool) → World → World → Type 0
Purges test old new = Settles (emptied test old) new

-- The number of the next pass: one more, up to the largest, which stays.
abbrev pub next_pass : ℕ → ℕ
next_pass n = min (n + 1) MAX_PASS

-- The parts of the machine that a step of a process keeps.
abbrev pub SamePass : Machine → Machine → Type 0
SamePass old new = (new.pass ≡ old.pass) × (new.last_pass ≡ old.last_pass) × (new.since ≡ old.since)

-- A pass begins: the world stays, and is remembered. While one runs no other can begin.
abbrev pub Begins : Pass → Machine → Reply → Machine → Type 0
Begins Idle old r new = (r ≡ reply.Started (next_pass old.last_pass)) × (new ≡ record old {
  pass = Running old.world 0;
  last_pass = next_pass old.last_pass;
})
Begins (Running begun spent) old r new = (r ≡ reply.Refused EBUSY) × (new ≡ old)

-- A slice of budget b: at most b files, all garbage of the begin, are purged. The pass may continue
-- while the budgets are within three times the files of the begin, and is done only where none of
-- that garbage is live.
pub record Slices (begun old : World) (spent b pass : ℕ) (r : Reply) (new : World)
    (after : Pass) : Type 0 where
  pub emptied_files : List ℕ
  pub few : length emptied_files ≤ b
  pub of_garbage : All (Garbage begun) emptied_files
  pub purged : Purges (λ f. list_any (nat_eq f) emptied_files) old new
  pub answered : ((r ≡ reply.Working) × (after ≡ Running begun (spent + b))
      × (spent + b ≤ 3 * map.len begun.files))
      ⊎ ((n : ℕ) × IsGarbageCount begun n × (r ≡ reply.Done pass n) × (after ≡ Idle)
      × ((f : ℕ) → Garbage begun f → ¬ (IsLive new f)))

-- A slice is asked for: without a pass it is refused, and so is a budget that is out of range.
abbrev pub GoesOn : Pass → Machine → ℕ → Reply → Machine → Type 0
GoesOn Idle old b r new = (r ≡ reply.Refused EIDLE) × (new ≡ old)
GoesOn (Running begun spent) old b r new =
    MatchBool (nat_eq b 0 || nat_lt MAX_BUDGET b)
    ((r ≡ reply.Refused EINVAL) × (new ≡ old))
    (Slices begun old.world spent b old.last_pass r new.world new.pass
    × (new.last_pass ≡ old.last_pass) × (new.since ≡ old.since))

-- A whole pass over a world: exactly its garbage is purged, and the sockets among it are counted.
pub record Passes (old : World) (pass : ℕ) (r : Reply) (new : World) : Type 0 where
  pub test : ℕ → Bool
  pub is_garbage : (f : ℕ) → (test f ≡ true) ↔ Garbage old f
  pub purged : Purges test old new
  pub count : ℕ
  pub counted : IsGarbageCount old count
  pub answered : r ≡ reply.Done pass count

-- A whole pass is asked for: while one runs it is refused, and nothing changed.
abbrev pub PassesWhole : Pass → Machine → Reply → Machine → Type 0
PassesWhole Idle old r new = Passes old.world (next_pass old.last_pass) r new.world
    × (new.pass ≡ Idle) × (new.last_pass ≡ next_pass old.last_pass) × (new.since ≡ old.since)
PassesWhole (Running begun spent) old r new = (r ≡ reply.Refused EBUSY) × (new ≡ old)
