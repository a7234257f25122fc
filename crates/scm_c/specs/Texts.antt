-- The answers and results of the calls that give a name, a picture or a check.
use Rattle.std.specs.Prelude.{◌≡◌, ◌⊎◌, ℕ, ℤ, pos, List, [], length, unwrap_or}
use Rattle.af_base.specs.declared.errno.Errno.TheVariants.{ENOMEM}
use Rattle.af_base.specs.World.{World}
use Rattle.af_base.specs.Whole.{name_at}
use Rattle.af_report.specs.Check.{IsChecked}
use Rattle.af_report.specs.Graph.{IsGraph}
use Rattle.scm_c.specs.Codes.{error_code}
use Rattle.scm_c.specs.Written.{over}
use Rattle.scm_c.specs.declared.audit.CChecked.{CChecked}

-- The answer is how long the name of the file f is, and as much of it as fits is written; a file
-- without one has an empty name (unix(7)).
abbrev pub IsNameWritten : World → ℕ → List ℕ → ℤ → List ℕ → Type 0
IsNameWritten w f old r new = let name = unwrap_or (name_at w f) [] in (r ≡ pos (length name))
    × (new ≡ over name old)

-- The answer is the length of a picture of the world, and as much of it as fits is written; or it
-- is out of memory, and nothing is written.
abbrev pub IsPictureWritten : World → List ℕ → ℤ → List ℕ → Type 0
IsPictureWritten w old r new =
    ((text : List ℕ) × IsGraph w text × (r ≡ pos (length text)) × (new ≡ over text old))
    ⊎ ((r ≡ error_code ENOMEM) × (new ≡ old))

-- The numbers of a check are written, with the answer 0; or it is out of memory, and nothing is
-- written.
abbrev pub IsCheckWritten : World → CChecked → ℤ → CChecked → Type 0
IsCheckWritten w old r new = ((r ≡ pos 0) × IsChecked w new.live new.garbage)
    ⊎ ((r ≡ error_code ENOMEM) × (new ≡ old))
