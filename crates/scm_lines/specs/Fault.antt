-- The answers of a reading. This project's profile.
use Rattle.std.specs.Prelude.{◌≡◌, Option, Some, None, Result, Ok, Err, ⊤}
use Rattle.scm_lines.specs.declared.fault.LineFault.{LineFault}
use Rattle.scm_lines.specs.declared.fault.LineFault.TheVariants as fault

-- The answer is what was said, or Unreadable only where nothing was said; Memory says nothing of
-- it.
abbrev pub Reads : {A : Type 0} → Option A → Result A LineFault → Type 0
Reads said (Ok read) = said ≡ Some read
Reads said (Err fault.Unreadable) = said ≡ None
Reads said (Err fault.Memory) = ⊤
