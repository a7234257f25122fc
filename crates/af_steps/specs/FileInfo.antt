-- The view of a file. The definition that names no manual page is of this project's profile
-- (docs/PROFILE.md).
use Rattle.std.specs.Prelude.{Option, Some, None, length}
use Rattle.af_base.specs.World.{File, Plain, AsSocket}
use Rattle.af_steps.specs.declared.views.FileInfo.{FileInfo}
use Rattle.af_steps.specs.declared.views.FileInfo.TheVariants as shown

-- The view of a plain file says that it is plain; that of a socket its type, its state, and its
-- numbers of messages and embryos; an unknown file has none.
abbrev pub shown_of : Option File → Option FileInfo
shown_of None = None
shown_of (Some Plain) = Some shown.Plain
shown_of (Some (AsSocket s)) =
    Some (shown.Socket s.kind s.state (length s.queue) (length s.backlog))
