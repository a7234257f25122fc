-- The effect of a whole pass on a world.
use Rattle.std.specs.Prelude.{◌≡◌, ◌↔◌, ◌<◌, ◌≤◌, ℕ, Bool, false, true}
use Rattle.af_base.specs.World.{IsLive, World, is_live}
use Rattle.af_base.specs.Pass.{Purges}
use Rattle.af_base.specs.Reached.{Garbage, IsGarbageCount}
use Rattle.af_mark.specs.MarksView.{MarksView}

-- No garbage of the begin is live now.
abbrev pub NoneLeft : World → World → Type 0
NoneLeft begun now = (f : ℕ) → Garbage begun f → ¬ (IsLive now f)

-- No live file has a number that is at least `first` and below `last`.
abbrev pub NoneLive : World → ℕ → ℕ → Type 0
NoneLive w first last = (f : ℕ) → first ≤ f → f < last → is_live w f ≡ false

-- f is the first live file from this number on, and below the bound of the pass.
abbrev pub IsFirstFrom : ℕ → World → MarksView → ℕ → Type 0
IsFirstFrom from w m f = IsLive w f × ((from ≤ f) × (f < m.bound)) × NoneLive w from f

-- Exactly the garbage of `old` is purged, and n of it are sockets (net/unix/garbage.c: queues of
-- garbage are emptied; this project's profile: plain files do not count).
pub record Collects (old : World) (n : ℕ) (new : World) : Type 0 where
  pub test : ℕ → Bool
  pub is_garbage : (f : ℕ) → (test f ≡ true) ↔ Garbage old f
  pub purged : Purges test old new
  pub counted : IsGarbageCount old n
