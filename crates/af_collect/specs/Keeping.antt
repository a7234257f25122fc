-- The invariant of a pass: of the world, and beside it of the marks and the progress.
-- Definitions that name no manual page are of this project's profile (docs/PROFILE.md).
use Rattle.std.specs.Prelude.{◌≡◌, ◌≤◌, ◌+◌, ◌&&◌, ℕ, Bool, true, false, not, nat_eq, nat_lt, List, [], ◌∷◌, length, take, if◌then◌else◌}
use Rattle.af_base.specs.World.{World, IsLive, is_live}
use Rattle.af_base.specs.Counts.{tabled}
use Rattle.af_base.specs.Pass.{Idle, Pass, Running}
use Rattle.af_base.specs.Places.{attached_in, backlog_at, queue_at}
use Rattle.af_base.specs.Reached.{Garbage}
use Rattle.af_mark.specs.MarksView.{MarksView, is_grey, is_marked, is_white, knows, shaded, visited}
use Rattle.af_collect.specs.declared.progress.Stage.{Stage}
use Rattle.af_collect.specs.declared.progress.Stage.TheVariants.{Marking, Resting, Sweeping}
use Rattle.af_collect.specs.declared.progress.PassProgress.{PassProgress}
use Rattle.af_collect.specs.Since.{AreCounted, IsMarking, IsSince, IsSweeping, is_scanned, is_socket_at}

-- There are marks of just the live files.
abbrev pub AreKnown : World → MarksView → Type 0
AreKnown w m = (f : ℕ) → knows m f ≡ is_live w f

-- Whether the file is below the number.
abbrev pub below : ℕ → ℕ → Bool
below n f = nat_lt f n

-- The invariant of both stages: the world comes from the begin (`IsSince`), only files of the begin
-- are marked, and each unit is counted.
pub record IsRunning (w begun : World) (m : MarksView) (c : PassProgress) : Type 0 where
  pub since : IsSince begun w m.bound
  pub marked : (f : ℕ) → is_marked m f ≡ true → IsLive begun f
  pub counted : AreCounted begun w (below c.visited) (is_scanned (is_marked m) (is_grey m))
      (below c.swept) c.looked
  pub low : m.bound ≤ w.next_ino

-- The invariant while a pass marks.
pub record IsInMarking (w begun : World) (m : MarksView) (c : PassProgress) : Type 0 where
  pub running : IsRunning w begun m c
  pub marking : IsMarking begun w (is_marked m) (is_grey m) (below c.visited)
  pub unswept : c.swept ≡ 0
  pub none_reclaimed : c.reclaimed ≡ 0
  pub visited_low : c.visited ≤ m.bound

-- The invariant while a pass sweeps.
pub record IsInSweeping (w begun : World) (m : MarksView) (c : PassProgress) : Type 0 where
  pub running : IsRunning w begun m c
  pub sweeping : IsSweeping begun w (is_marked m) (below c.swept) c.reclaimed

-- The invariant of each stage; without a pass, nothing.
abbrev pub IsStage : Stage → World → World → MarksView → PassProgress → Type 0
IsStage Resting w begun m c = Unit {0}
IsStage Marking w begun m c = IsInMarking w begun m c
IsStage Sweeping w begun m c = IsInSweeping w begun m c

-- All that a pass keeps, between any two changes.
pub record PassInvariant (w begun : World) (m : MarksView) (c : PassProgress) : Type 0 where
  pub known : AreKnown w m
  pub stage : IsStage c.stage w begun m c

-- The pass that a caller sees.
abbrev pub pass_of : Stage → World → ℕ → Pass
pass_of Resting begun spent = Idle
pass_of Marking begun spent = Running begun spent
pass_of Sweeping begun spent = Running begun spent

-- Whether marking continues.
abbrev pub is_marking : Stage → Bool
is_marking Marking = true
is_marking Resting = false
is_marking Sweeping = false

-- Whether sweeping continues.
abbrev pub is_sweeping : Stage → Bool
is_sweeping Sweeping = true
is_sweeping Resting = false
is_sweeping Marking = false

-- Whether a pass runs.
abbrev pub is_running : Stage → Bool
is_running Resting = false
is_running Marking = true
is_running Sweeping = true

-- Whether a pass runs, by what a caller sees.
abbrev pub runs : Pass → Bool
runs Idle = false
runs (Running begun spent) = true

-- The file is no garbage of the begin of a pass that runs: it can be put into a place, and its
-- places can be taken.
abbrev pub NotBegunGarbage : Pass → ℕ → Type 0
NotBegunGarbage Idle f = Unit {0}
NotBegunGarbage (Running begun spent) f = ¬ (Garbage begun f)

-- The marks with these files shaded, one after the other.
abbrev pub shaded_all : List ℕ → MarksView → MarksView
shaded_all [] m = m
shaded_all (f ∷ fs) m = shaded_all fs (shaded f m)

-- The same, while marking.
abbrev pub shaded_in : Stage → List ℕ → MarksView → MarksView
shaded_in stage fs m = if is_marking stage then shaded_all fs m else m

-- The marks after a visit of f, given how many descriptors refer to it. Where f was scanned too,
-- all that it holds is marked.
abbrev pub after_visit : Bool → List ℕ → ℕ → ℕ → MarksView → MarksView
after_visit scanned held tabled f m = if scanned then shaded_all held (visited true tabled f m)
    else visited false tabled f m

-- Whether a visit marks the file: a table holds it, it was there at the begin, and it is not marked
-- (net/unix/garbage.c: from the tables on).
abbrev pub is_due : World → MarksView → ℕ → Bool
is_due w m f = nat_lt 0 (tabled w f) && (nat_lt f m.bound && is_white m f)

-- How many units a visit takes: one, and one more if the file was scanned too (this project's
-- profile: what a budget counts).
abbrev pub units_of : Bool → ℕ
units_of false = 1
units_of true = 2

-- The files that a file would lose first: those of its first message, or else its first embryo.
abbrev pub first_held : World → ℕ → List ℕ
first_held w s = if nat_eq (length (queue_at w s)) 0 then take 1 (backlog_at w s)
    else attached_in (take 1 (queue_at w s))

-- Whether freeing the file is counted: while sweeping, if it is an unmarked socket of the begin.
abbrev pub is_counted : World → MarksView → PassProgress → ℕ → Bool
is_counted w m c f =
    is_sweeping c.stage && (is_socket_at w f && (nat_lt f m.bound && not (is_marked m f)))

-- The progress of the pass after the file is freed.
abbrev pub counted : World → MarksView → ℕ → PassProgress → PassProgress
counted w m f c = record c { reclaimed = c.reclaimed + (if is_counted w m c f then 1 else 0) }
