-- Messages within the limits. The definition that names no manual page is of this project's profile
-- (docs/PROFILE.md).
use Rattle.std.specs.Prelude.{List}
use Rattle.std.specs.List.{AllByRecursion}
use Rattle.af_base.specs.World.{Message}
use Rattle.af_base.specs.Whole.{IsMessageWithin}

-- Each message is within the limits.
abbrev pub AreWithin : List Message → Type 0
AreWithin q = AllByRecursion IsMessageWithin q
