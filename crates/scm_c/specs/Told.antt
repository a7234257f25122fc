-- The calls on the list of freed files, and on that of the sockets whose readiness may have
-- changed. Definitions that name no manual page are this project's own.
use Rattle.std.specs.Prelude.{◌≡◌, ◌⊎◌, ℕ, ℤ, pos, List, length, Option, Some, None}
use Rattle.af_base.specs.Pass.{Machine}
use Rattle.af_base.specs.Told.{AreSocketsOnce, TellsChanged, TellsReleased}
use Rattle.af_base.specs.World.{Since, World}
use Rattle.af_base.specs.declared.errno.Errno.TheVariants.{ENOMEM}
use Rattle.scm_c.specs.Codes.{error_code, no_engine}
use Rattle.scm_c.specs.Written.{over}

-- The machine with both lists empty; which of them it keeps stays.
abbrev pub cleared : Machine → Machine
cleared m = record m { since = record m.since { files = m.world.files; next = m.world.next_ino } }

-- The call answers 0, and the engine becomes this; or there is no engine.
abbrev pub Alters : Option Machine → (Machine → Machine) → ℤ → Option Machine → Type 0
Alters (Some m) f result new = (result ≡ pos 0) × (new ≡ Some (f m))
Alters None f result new = (result ≡ no_engine) × (new ≡ None)

-- The call answers 0, and the engine becomes this; or it is ENOMEM, and the engine is as it was; or
-- there is no engine.
abbrev pub MayAlter : Option Machine → (Machine → Machine) → ℤ → Option Machine → Type 0
MayAlter (Some m) f result new = ((result ≡ pos 0) × (new ≡ Some (f m)))
    ⊎ ((result ≡ error_code ENOMEM) × (new ≡ Some m))
MayAlter None f result new = (result ≡ no_engine) × (new ≡ None)

-- The answer is how long the list of the freed files is, and as much of it as fits is written.
abbrev pub IsReleasedWritten : World → Since → List ℕ → ℤ → List ℕ → Type 0
IsReleasedWritten w since old r new = (told : List ℕ) × TellsReleased w since told
    × (r ≡ pos (length told)) × (new ≡ over told old)

-- The answer is how long the list of the sockets whose readiness may have changed is, which has
-- each once; as much of it as fits is written.
abbrev pub IsChangedWritten : World → Since → List ℕ → ℤ → List ℕ → Type 0
IsChangedWritten w since old r new = (told : List ℕ) × AreSocketsOnce w.files told
    × TellsChanged w since told × (r ≡ pos (length told)) × (new ≡ over told old)
