-- The bare world: who holds what, and whom it is charged to, without all else. Definitions that
-- name no manual page are of this project's profile (docs/PROFILE.md).
use Rattle.std.specs.Prelude.{[], false, map}
use Rattle.std.specs.FinMap as finmap
use Rattle.af_base.specs.World.{World, Process, File, Socket, Message, Plain, AsSocket}
use Rattle.af_base.specs.Refusals.{no_socket}
use Rattle.af_base.specs.Unheld.{map_entries}

-- A message without its bytes.
abbrev pub bare_message : Message → Message
bare_message m = record m { bytes = [] }

-- A socket with its queue and backlog alone: every bare socket has the same type, no peer and no
-- name.
abbrev pub bare_socket : Socket → Socket
bare_socket s = record no_socket { queue = map bare_message s.queue; backlog = s.backlog }

-- A file that is bare: a plain one stays as it is.
abbrev pub bare_file : File → File
bare_file Plain = Plain
bare_file (AsSocket s) = AsSocket (bare_socket s)

-- A process with its table alone.
abbrev pub bare_process : Process → Process
bare_process q = record { user = 0; limit = 0; privileged = false; table = q.table }

-- The world with its places and their charges alone: no bytes, names, states, limits, users and
-- next numbers.
abbrev pub bare : World → World
bare w = record {
  processes = map_entries (λ _. bare_process) (finmap.entries w.processes);
  files = map_entries (λ _. bare_file) (finmap.entries w.files);
  next_ino = 0;
  next_pid = 0;
  users = [];
}
