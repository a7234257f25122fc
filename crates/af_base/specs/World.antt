-- The world: which processes run, which files are open, and what waits in the queues. Definitions
-- that name no manual page are of this project's profile (docs/PROFILE.md). Files, processes, users
-- and descriptors go by their numbers.
use Rattle.std.specs.Prelude.{ℕ, Bool, List, [], Option, IsTrue, false}
use Rattle.std.specs.Ordering.{nat_cmp}
use Rattle.std.specs.FinMap as map
use Rattle.std.specs.FinMap.{FinMap}
use Rattle.af_base.specs.declared.events.SockType.{SockType}
use Rattle.af_base.specs.declared.events.State.{State}
use Rattle.af_base.specs.declared.events.Ends.{Ends}

-- A finite map from numbers.
abbrev pub Map : Type 0 → Type 0
Map X = FinMap nat_cmp X

-- A message in a receive queue: its bytes, its attached files, and the user who is charged for them
-- (unix(7), SCM_RIGHTS; whom it charges is this project's profile).
pub record Message : Type 0 where
  pub bytes : List ℕ
  pub attached : List ℕ
  pub user : ℕ

-- Both ends are open.
abbrev pub open_ends : Ends
open_ends = record { no_input = false; no_output = false }

-- A socket (unix(7)): its type, its connection state, its abstract name if it has one, which of its
-- ends are closed (shutdown(2)), the messages that it can receive, and the embryos that wait to be
-- accepted.
pub record Socket : Type 0 where
  pub kind : SockType
  pub state : State
  pub name : Option (List ℕ)
  pub ends : Ends
  pub queue : List Message
  pub backlog : List ℕ

-- An open file description (open(2)): a plain file, without any content, or a socket.
pub data File : Type 0 where
  Plain : File
  AsSocket : (socket : Socket) → File

-- A process: its user, its limit on descriptors (getrlimit(2), RLIMIT_NOFILE), whether it is
-- privileged, and the file of each open descriptor.
pub record Process : Type 0 where
  pub user : ℕ
  pub limit : ℕ
  pub privileged : Bool
  pub table : Map ℕ

-- The processes and files, the next numbers to give, and the users in the order of their first
-- process.
pub record World : Type 0 where
  pub processes : Map Process
  pub files : Map File
  pub next_ino : ℕ
  pub next_pid : ℕ
  pub users : List ℕ

-- Whether changed readiness and freed files are listed; the files when the lists were last emptied,
-- and the next inode number then.
pub record Since : Type 0 where
  pub changed : Bool
  pub released : Bool
  pub files : Map File
  pub next : ℕ

-- Nothing is listed.
abbrev pub untold : Since
untold = record { changed = false; released = false; files = map.empty; next = 1 }

-- No process, no file, no user; numbers begin at 1.
abbrev pub empty_world : World
empty_world = record {
  processes = map.empty;
  files = map.empty;
  next_ino = 1;
  next_pid = 1;
  users = [];
}

-- Whether the world has the file.
abbrev pub is_live : World → ℕ → Bool
is_live w f = map.contains_key w.files f

-- The world has the file: something refers to its open file description, or has just ceased to
-- (close(2)).
abbrev pub IsLive : World → ℕ → Type 0
IsLive w f = IsTrue (is_live w f)
