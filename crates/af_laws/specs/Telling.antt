-- Laws of the lists of freed files.
use Rattle.std.specs.Prelude.{◌≤◌, ◌++◌, ℕ, List}
use Rattle.af_base.specs.Told.{AreReleased}
use Rattle.af_base.specs.World.{Since, World}

-- Two periods of a list, one after the other, join to one. Each number live at the begin of the
-- first, or given out since, was listed once or is live at the end of the second.
abbrev pub PeriodsJoin : Type 0
PeriodsJoin =
    (since : Since) (mid new : World) (first second : List ℕ) → since.next ≤ mid.next_ino
    → mid.next_ino ≤ new.next_ino
    → AreReleased mid.files mid.next_ino since first → AreReleased new.files new.next_ino
    (record since { files = mid.files; next = mid.next_ino }) second
    → AreReleased new.files new.next_ino since (first ++ second)
