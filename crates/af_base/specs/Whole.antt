-- The invariant of every world that events lead to. Definitions that name no manual page are of
-- this project's profile (docs/PROFILE.md).
use Rattle.std.specs.Prelude.{◌≡◌, ◌<◌, ◌≤◌, ◌+◌, ℕ, Bool, IsTrue, true, not, List, Option, Some, length}
use Rattle.std.specs.List.{Contains}
use Rattle.std.specs.Option.{option_and_then, option_map_or}
use Rattle.std.specs.FinMap as map
use Rattle.af_base.specs.declared.events.SockType.{SockType}
use Rattle.af_base.specs.declared.events.State.{State}
use Rattle.af_base.specs.declared.events.State.TheVariants as state
use Rattle.af_base.specs.declared.limits.TheConstants.{MAX_PROCESSES, MAX_NOFILE, MAX_FILES, MAX_MESSAGES, MAX_BYTES, SCM_MAX_FD, MAX_BACKLOG, MAX_INFLIGHT, MAX_PID, MAX_INO}
use Rattle.af_base.specs.World.{World, Process, Socket, File, Plain, AsSocket, Message, IsLive}
use Rattle.af_base.specs.Places.{InTable, Holds}
use Rattle.af_base.specs.Counts.{total, waiting}
use Rattle.af_base.specs.Names.{bound_to, is_name}
use Rattle.af_base.specs.Refusals.{is_datagram, is_listening, room_of, socket_at}
use Rattle.af_base.specs.Unheld.{IsSettled}

-- The connection state of a file; a plain file is idle.
abbrev pub state_of : File → State
state_of Plain = state.Idle
state_of (AsSocket s) = s.state

-- The connection state of the file f; an unknown file is idle.
abbrev pub state_at : World → ℕ → State
state_at w f = option_map_or state_of (map.get w.files f) state.Idle

-- The peer of a connected file is connected to it, so peers are live (socketpair(2)).
abbrev pub AreMutual : World → Type 0
AreMutual w = (f p : ℕ) → state_at w f ≡ state.Connected p → state_at w p ≡ state.Connected f

-- Whether a socket of this type can have this state: datagram sockets have a target or none, and
-- others have none (unix(7)).
abbrev pub fits_type : SockType → State → Bool
fits_type kind state.Idle = true
fits_type kind (state.Listening b) = not (is_datagram kind)
fits_type kind (state.Connected q) = not (is_datagram kind)
fits_type kind state.HungUp = not (is_datagram kind)
fits_type kind (state.Sends q) = is_datagram kind

-- A target is a number that was given; its file may be freed since (connect(2)).
abbrev pub AreTargets : World → Type 0
AreTargets w = (f q : ℕ) → state_at w f ≡ state.Sends q → (0 < q) × (q < w.next_ino)

-- The abstract name of the file f, if it is a socket that has one.
abbrev pub name_at : World → ℕ → Option (List ℕ)
name_at w f = option_and_then (λ s. s.name) (socket_at w f)

-- The set and the name that the file f is bound to, if it is a socket that has one (bind(2)).
abbrev pub bound_at : World → ℕ → Option (ℕ × List ℕ)
bound_at w f = option_and_then bound_to (socket_at w f)

-- The world is whole: each place holds a live file, peers are mutual, datagram sockets alone have
-- targets, no two sockets have one name in one set, no file is in two backlogs, and the numbers given
-- are below the next ones; the next ones and the files' numbers begin at 1, so 0 is no file.
pub record IsWhole (w : World) : Type 0 where
  pub tables_live : (f : ℕ) → InTable w f → IsLive w f
  pub queues_live : (s f : ℕ) → Holds w s f → IsLive w f
  pub files_numbered : (f : ℕ) → IsLive w f → f < w.next_ino
  pub processes_numbered : (p : ℕ) → IsTrue (map.contains_key w.processes p) → p < w.next_pid
  pub files_begin : (f : ℕ) → IsLive w f → 0 < f
  pub next_ino : 0 < w.next_ino
  pub next_pid : 0 < w.next_pid
  pub peers : AreMutual w
  pub targets : AreTargets w
  pub types : (f : ℕ) (s : Socket) → socket_at w f ≡ Some s → fits_type s.kind s.state ≡ true
  pub names : (f g : ℕ) (name : ℕ × List ℕ) → bound_at w f ≡ Some name → bound_at w g ≡ Some name
      → f ≡ g
  pub embryos : (f : ℕ) → waiting w f ≤ 1

-- A process whose limit is at most the largest one, and whose open descriptors are below that. A
-- descriptor may be at or above the limit where that was lowered (setrlimit(2), RLIMIT_NOFILE; this
-- project's profile).
pub record IsProcessWithin (q : Process) : Type 0 where
  pub limit : q.limit ≤ MAX_NOFILE
  pub numbers : (n : ℕ) → IsTrue (map.contains_key q.table n) → n < MAX_NOFILE

-- A message within the limits (unix(7), SCM_RIGHTS).
pub record IsMessageWithin (m : Message) : Type 0 where
  pub some : 1 ≤ length m.bytes
  pub bytes : length m.bytes ≤ MAX_BYTES
  pub attached : length m.attached ≤ SCM_MAX_FD

-- A socket within the limits: one that listens has room for at least one embryo (listen(2); this
-- project's profile).
pub record IsSocketWithin (s : Socket) : Type 0 where
  pub queue : length s.queue ≤ MAX_MESSAGES
  pub least : is_listening s.state ≡ true → 1 ≤ room_of s.state
  pub room : room_of s.state ≤ MAX_BACKLOG
  pub backlog : length s.backlog ≤ room_of s.state
  pub name : (name : List ℕ) → s.name ≡ Some name → is_name name ≡ true
  pub messages : (m : Message) → Contains s.queue m → IsMessageWithin m

-- The world is within all limits.
pub record IsWithin (w : World) : Type 0 where
  pub process_count : map.len w.processes ≤ MAX_PROCESSES
  pub file_count : map.len w.files ≤ MAX_FILES
  pub flying : total w ≤ MAX_INFLIGHT
  pub pids : w.next_pid ≤ MAX_PID + 1
  pub inos : w.next_ino ≤ MAX_INO + 1
  pub processes : (p : ℕ) (q : Process) → map.get w.processes p ≡ Some q → IsProcessWithin q
  pub sockets : (f : ℕ) (s : Socket) → map.get w.files f ≡ Some (AsSocket s) → IsSocketWithin s

-- The world is sound: whole, within all limits, and settled.
pub record IsSound (w : World) : Type 0 where
  pub whole : IsWhole w
  pub within : IsWithin w
  pub settled : IsSettled w
