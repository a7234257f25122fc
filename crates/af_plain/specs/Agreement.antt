-- When numbers that were kept are the recounts. Definitions that name no manual page are of this
-- project's profile (docs/PROFILE.md).
use Rattle.std.specs.Prelude.{◌≡◌}
use Rattle.std.specs.List.{All}
use Rattle.af_base.specs.Counts.{charged, inflight, refs, total}
use Rattle.af_base.specs.World.{World}
use Rattle.af_plain.specs.declared.agreement.Kept.{Kept}
use Rattle.af_plain.specs.declared.agreement.KeptFile.{KeptFile}
use Rattle.af_plain.specs.declared.agreement.KeptUser.{KeptUser}

-- The numbers that are kept of a file are its recounts.
abbrev pub IsFileRecount : World → KeptFile → Type 0
IsFileRecount w k = (k.refs ≡ refs w k.ino) × (k.inflight ≡ inflight w k.ino)

-- The number that is kept of a user is its recount.
abbrev pub IsUserRecount : World → KeptUser → Type 0
IsUserRecount w k = k.charged ≡ charged w k.user

-- Each number that is kept is its recount.
pub record AreRecounts (w : World) (k : Kept) : Type 0 where
  pub files : All (IsFileRecount w) k.files.items
  pub users : All (IsUserRecount w) k.users.items
  pub total : k.total ≡ total w
