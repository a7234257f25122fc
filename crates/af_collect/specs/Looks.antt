-- Which files a pass marks by a look at others. Definitions that name no manual page are of this
-- project's profile (docs/PROFILE.md).
use Rattle.std.specs.Prelude.{◌≡◌, ◌≤◌, ◌⊎◌, ℕ, List, length, true}
use Rattle.std.specs.List.{Contains}
use Rattle.af_base.specs.Places.{Holds}
use Rattle.af_base.specs.World.{World}
use Rattle.af_mark.specs.MarksView.{MarksView, is_marked}
use Rattle.af_collect.specs.Keeping.{is_marking}
use Rattle.af_collect.specs.StoreView.{StoreView}

-- At most n files were looked at: each file that is marked now, and was not before, is one of them,
-- or one of them holds it (what a budget counts).
pub record MarksByLooks (w : World) (n : ℕ) (old new : MarksView) : Type 0 where
  pub looked : List ℕ
  pub few : length looked ≤ n
  pub marked : (f : ℕ) → is_marked new f ≡ true → (is_marked old f ≡ true)
      ⊎ ((s : ℕ) × Contains looked s × ((f ≡ s) ⊎ Holds w s f))

-- A pass that still marks marked before, and changed no place, but marks by a look at n files at
-- most.
abbrev pub OnlyMarks : ℕ → StoreView → StoreView → Type 0
OnlyMarks n old new = is_marking new.progress.stage ≡ true
    → (is_marking old.progress.stage ≡ true)
    × (new.world ≡ old.world)
    × MarksByLooks old.world n old.marks new.marks
