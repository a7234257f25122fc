-- Laws of bare worlds. Definitions that name no manual page are of this project's profile
-- (docs/PROFILE.md).
use Rattle.std.specs.Prelude.{◌≡◌, ◌↔◌, ℕ}
use Rattle.af_base.specs.Bare.{bare}
use Rattle.af_base.specs.Counts.{charged, inflight, refs, total}
use Rattle.af_base.specs.Reached.{Garbage, Reached}
use Rattle.af_base.specs.World.{IsLive, World}

-- A bare world has the reference counts of the whole one.
abbrev pub KeepsRefs : Type 0
KeepsRefs = (w : World) (f : ℕ) → refs (bare w) f ≡ refs w f

-- A bare world has the in-flight counts of the whole one.
abbrev pub KeepsInflight : Type 0
KeepsInflight = (w : World) (f : ℕ) → inflight (bare w) f ≡ inflight w f

-- A bare world charges each user what the whole one does.
abbrev pub KeepsCharged : Type 0
KeepsCharged = (w : World) (u : ℕ) → charged (bare w) u ≡ charged w u

-- A bare world charges all users together what the whole one does.
abbrev pub KeepsTotal : Type 0
KeepsTotal = (w : World) → total (bare w) ≡ total w

-- A bare world has the live files of the whole one.
abbrev pub KeepsLiveFiles : Type 0
KeepsLiveFiles = (w : World) (f : ℕ) → IsLive (bare w) f ↔ IsLive w f

-- The same files are reached in a bare world.
abbrev pub KeepsReached : Type 0
KeepsReached = (w : World) (f : ℕ) → Reached (bare w) f ↔ Reached w f

-- The same files are garbage in a bare world.
abbrev pub KeepsGarbage : Type 0
KeepsGarbage = (w : World) (f : ℕ) → Garbage (bare w) f ↔ Garbage w f
