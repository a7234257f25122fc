-- How a world is changed: a value in a map, a table, a socket, a file or a process more.
-- Definitions that name no manual page are of this project's profile (docs/PROFILE.md).
use Rattle.std.specs.Prelude.{ℕ, ◌+◌, Bool, false, not, ◌||◌, List, [], ◌∷◌, ◌++◌, Some, drop, nat_eq, if◌then◌else◌}
use Rattle.std.specs.List.{list_any}
use Rattle.std.specs.Option.{option_map_or}
use Rattle.std.specs.FinMap as map
use Rattle.af_base.specs.declared.events.Ends.{Ends}
use Rattle.af_base.specs.declared.events.State.{State}
use Rattle.af_base.specs.declared.events.State.TheVariants as state
use Rattle.af_base.specs.World.{World, Map, Process, File, Socket, Message, Plain, AsSocket}

-- The value at k changed, where there is one.
abbrev pub change_at : {X : Type 0} → (X → X) → Map X → ℕ → Map X
change_at f m k = option_map_or (λ x. map.insert m k (f x)) (map.get m k) m

-- Process p changed.
abbrev pub with_process : World → ℕ → (Process → Process) → World
with_process w p g = record w { processes = change_at g w.processes p }

-- The table of process p changed.
abbrev pub with_table : World → ℕ → (Map ℕ → Map ℕ) → World
with_table w p g = with_process w p (λ q. record q { table = g q.table })

-- A socket changed; a plain file is left as it is.
abbrev pub file_with : (Socket → Socket) → File → File
file_with g Plain = Plain
file_with g (AsSocket s) = AsSocket (g s)

-- The socket s of these files changed.
abbrev pub change_socket_at : (Socket → Socket) → Map File → ℕ → Map File
change_socket_at g files s = change_at (file_with g) files s

-- The same of a world.
abbrev pub with_socket : World → ℕ → (Socket → Socket) → World
with_socket w s g = record w { files = change_socket_at g w.files s }

-- A process with descriptor n set to f (dup(2)).
abbrev pub installed : ℕ → ℕ → Process → Process
installed n f q = record q { table = map.insert q.table n f }

-- Descriptor n of process p set to f (dup(2)).
abbrev pub install : World → ℕ → ℕ → ℕ → World
install w p n f = with_process w p (installed n f)

-- These descriptors set to these files, in order.
abbrev pub install_all : World → ℕ → List (ℕ × ℕ) → World
install_all w p [] = w
install_all w p (e ∷ es) = install_all (install w p e.0 e.1) p es

-- A process whose descriptor n is free (close(2)).
abbrev pub taken_out : ℕ → Process → Process
taken_out n q = record q { table = map.remove q.table n }

-- Descriptor n of process p is free (close(2)).
abbrev pub uninstall : World → ℕ → ℕ → World
uninstall w p n = with_process w p (taken_out n)

-- The queue of s is this one.
abbrev pub with_queue : World → ℕ → List Message → World
with_queue w s q = with_socket w s (λ x. record x { queue = q })

-- A socket with one message more, last in its queue (unix(7)).
abbrev pub pushed : Message → Socket → Socket
pushed m x = record x { queue = x.queue ++ m ∷ [] }

-- One message more, last in the queue of s (unix(7)).
abbrev pub push_message : World → ℕ → Message → World
push_message w s m = with_socket w s (pushed m)

-- A socket with this abstract name (bind(2)).
abbrev pub with_name : List ℕ → Socket → Socket
with_name name s = record s { name = Some name }

-- A socket that waits for connections, b of them at most (listen(2)).
abbrev pub listening : ℕ → Socket → Socket
listening b s = record s { state = state.Listening b }

-- A socket that is connected to f (connect(2)).
abbrev pub connected : ℕ → Socket → Socket
connected f s = record s { state = state.Connected f }

-- Whether a socket of this state sends to another target than f (connect(2)).
abbrev pub sends_elsewhere : ℕ → State → Bool
sends_elsewhere f state.Idle = false
sends_elsewhere f (state.Listening b) = false
sends_elsewhere f (state.Connected q) = false
sends_elsewhere f state.HungUp = false
sends_elsewhere f (state.Sends q) = not (nat_eq q f)

-- The state of a datagram socket that sends to f, or, of 0, has no target (connect(2)).
abbrev pub sending_to : ℕ → State
sending_to f = if nat_eq f 0 then state.Idle else state.Sends f

-- A datagram socket that sends to f from now on, or, of 0, has no target. What waits there is lost
-- where it sent to another (connect(2)).
abbrev pub aimed : ℕ → Socket → Socket
aimed f s = record s {
  state = sending_to f;
  queue = if sends_elsewhere f s.state then [] else s.queue;
}

-- The ends with the input closed if `input` says so, and the output if `output` does (shutdown(2)).
abbrev pub closed : Bool → Bool → Ends → Ends
closed input output e = record {
  no_input = e.no_input || input;
  no_output = e.no_output || output;
}

-- A socket with its ends closed so (shutdown(2)).
abbrev pub shut : Bool → Bool → Socket → Socket
shut input output s = record s { ends = closed input output s.ends }

-- A listener with an embryo more, last in its backlog (connect(2)).
abbrev pub queued : ℕ → Socket → Socket
queued f s = record s { backlog = s.backlog ++ f ∷ [] }

-- A listener without its first embryo (accept(2)).
abbrev pub dequeued : Socket → Socket
dequeued s = record s { backlog = drop 1 s.backlog }

-- A process with this limit on its descriptors; its table stays as it is (setrlimit(2),
-- RLIMIT_NOFILE).
abbrev pub limited : ℕ → Process → Process
limited n q = record q { limit = n }

-- Process p with this limit (setrlimit(2), RLIMIT_NOFILE).
abbrev pub set_limit : World → ℕ → ℕ → World
set_limit w p n = with_process w p (limited n)

-- Process p is removed, and its table with it (_exit(2)).
abbrev pub remove_process : World → ℕ → World
remove_process w p = record w { processes = map.remove w.processes p }

-- The next inode number is this file.
abbrev pub add_file : World → File → World
add_file w x = record w { files = map.insert w.files w.next_ino x; next_ino = w.next_ino + 1 }

-- The next pid is this process.
abbrev pub add_process : World → Process → World
add_process w q = record w {
  processes = map.insert w.processes w.next_pid q;
  next_pid = w.next_pid + 1;
}

-- A new user is added at the end.
abbrev pub add_user : World → ℕ → World
add_user w u = if list_any (nat_eq u) w.users then w else record w { users = w.users ++ u ∷ [] }
