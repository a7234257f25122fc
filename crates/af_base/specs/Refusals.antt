-- Why a step is refused. A row joins parts; its tests are made in order, and the first that fits is
-- the answer (this project's profile, after the manual page of each call).
use Rattle.std.specs.Prelude.{ℕ, ◌+◌, Bool, true, false, not, ◌&&◌, ◌||◌, List, [], ◌∷◌, ◌++◌, length, Option, Some, None, is_none, is_some, unwrap_or, nat_eq, nat_lt, nat_le, if◌then◌else◌}
use Rattle.std.specs.List.{list_any}
use Rattle.std.specs.Option.{option_and_then, option_map_or}
use Rattle.std.specs.FinMap as map
use Rattle.af_base.specs.declared.events.SockType.{SockType}
use Rattle.af_base.specs.declared.events.SockType.TheVariants.{Dgram, Seqpacket, Stream}
use Rattle.af_base.specs.declared.events.State.{State}
use Rattle.af_base.specs.declared.events.State.TheVariants as state
use Rattle.af_base.specs.declared.errno.Errno.{Errno}
use Rattle.af_base.specs.declared.errno.Errno.TheVariants.{EADDRINUSE, EAGAIN, EBADF, ECONNREFUSED, EINVAL, EISCONN, EMFILE, EMSGSIZE, ENFILE, ENOBUFS, ENOTCONN, ENOTSOCK, EOPNOTSUPP, EPERM, EPIPE, EPROTOTYPE, ERANGE, ESRCH, ETOOMANYREFS}
use Rattle.af_base.specs.declared.events.Step.{Step}
use Rattle.af_base.specs.declared.events.Step.TheVariants as step
use Rattle.af_base.specs.declared.limits.TheConstants.{MAX_PROCESSES, MAX_NOFILE, MAX_FILES, MAX_MESSAGES, MAX_BYTES, SCM_MAX_FD, MAX_BACKLOG, MAX_INFLIGHT, MAX_PID, MAX_INO}
use Rattle.af_base.specs.World.{World, Map, Message, Process, Socket, File, Plain, AsSocket, open_ends}
use Rattle.af_base.specs.Places.{table_at, queue_at}
use Rattle.af_base.specs.Changes.{sends_elsewhere}
use Rattle.af_base.specs.Counts.{charged, total}
use Rattle.af_base.specs.Names.{is_between, is_name, named, set_of}
use Rattle.af_base.specs.Table.{free_numbers}

-- Stands for a process that is not there. Stand-ins are never seen: a row's later tests are read
-- only where the earlier ones failed.
abbrev pub no_process : Process
no_process = record { user = 0; limit = 0; privileged = false; table = map.empty }

-- Stands for a socket that is not there.
abbrev pub no_socket : Socket
no_socket = record {
  kind = Seqpacket;
  state = state.Idle;
  name = None;
  ends = open_ends;
  queue = [];
  backlog = [];
}

-- The process p of these.
abbrev pub process_in : Map Process → ℕ → Process
process_in processes p = unwrap_or (map.get processes p) no_process

-- The same of a world.
abbrev pub process_at : World → ℕ → Process
process_at w p = process_in w.processes p

-- The socket that a file is.
abbrev pub socket_of : File → Option Socket
socket_of Plain = None
socket_of (AsSocket s) = Some s

-- The socket that the file f of these is.
abbrev pub socket_in : Map File → ℕ → Option Socket
socket_in files f = option_and_then socket_of (map.get files f)

-- The same of a world.
abbrev pub socket_at : World → ℕ → Option Socket
socket_at w f = socket_in w.files f

-- Whether the file f of these is a socket whose input is closed (shutdown(2)).
abbrev pub is_deaf_in : Map File → ℕ → Bool
is_deaf_in files f = option_map_or (λ s. s.ends.no_input) (socket_in files f) false

-- The same of a world.
abbrev pub is_deaf : World → ℕ → Bool
is_deaf w f = is_deaf_in w.files f

-- The inode number that process p has at n.
abbrev pub ino_on : World → ℕ → ℕ → ℕ
ino_on w p n = unwrap_or (table_at w p n) 0

-- The socket that process p has at n.
abbrev pub socket_on : World → ℕ → ℕ → Socket
socket_on w p n = unwrap_or (option_and_then (socket_at w) (table_at w p n)) no_socket

-- Whether it was ever connected, also where the peer was freed.
abbrev pub is_connected : State → Bool
is_connected state.Idle = false
is_connected (state.Listening b) = false
is_connected (state.Connected q) = true
is_connected state.HungUp = true
is_connected (state.Sends q) = false

-- Whether both are one type.
abbrev pub is_same_type : SockType → SockType → Bool
is_same_type Stream Stream = true
is_same_type Stream Seqpacket = false
is_same_type Seqpacket Stream = false
is_same_type Seqpacket Seqpacket = true
is_same_type Stream Dgram = false
is_same_type Seqpacket Dgram = false
is_same_type Dgram Stream = false
is_same_type Dgram Seqpacket = false
is_same_type Dgram Dgram = true

-- Whether it is the type of datagram sockets.
abbrev pub is_datagram : SockType → Bool
is_datagram Stream = false
is_datagram Seqpacket = false
is_datagram Dgram = true

-- Whether its peer was freed.
abbrev pub is_hung_up : State → Bool
is_hung_up state.Idle = false
is_hung_up (state.Listening b) = false
is_hung_up (state.Connected q) = false
is_hung_up state.HungUp = true
is_hung_up (state.Sends q) = false

-- Whether messages can come to it and go from it: it was ever connected, or is a datagram socket.
abbrev pub is_linked : Socket → Bool
is_linked s = is_connected s.state || is_datagram s.kind

-- Whether nothing can come any more: its peer was freed, or its input is closed. A datagram socket
-- has no end (shutdown(2), SHUT_RD).
abbrev pub is_ended : Socket → Bool
is_ended s = is_hung_up s.state || (s.ends.no_input && not (is_datagram s.kind))

-- Whether it waits for connections.
abbrev pub is_listening : State → Bool
is_listening state.Idle = false
is_listening (state.Listening b) = true
is_listening (state.Connected q) = false
is_listening state.HungUp = false
is_listening (state.Sends q) = false

-- How many embryos it may hold: none, where it does not listen (listen(2)).
abbrev pub room_of : State → ℕ
room_of state.Idle = 0
room_of (state.Listening b) = b
room_of (state.Connected q) = 0
room_of state.HungUp = 0
room_of (state.Sends q) = 0

-- The live peer, or the target of a datagram socket, live or freed; or 0, which is no inode number.
abbrev pub peer_of : State → ℕ
peer_of state.Idle = 0
peer_of (state.Listening b) = 0
peer_of (state.Connected q) = q
peer_of state.HungUp = 0
peer_of (state.Sends q) = q

-- The live peer alone, or 0: a target is none (socketpair(2)).
abbrev pub connected_to : State → ℕ
connected_to state.Idle = 0
connected_to (state.Listening b) = 0
connected_to (state.Connected q) = q
connected_to state.HungUp = 0
connected_to (state.Sends q) = 0

-- The inode number of the live socket that a socket of this type finds by this name, or 0, which is
-- none.
abbrev pub ino_named : World → SockType → List ℕ → ℕ
ino_named w kind name = unwrap_or (named w.files (set_of kind) name) 0

-- The live socket that a socket of this type finds by this name, if there is one.
abbrev pub target_named : World → SockType → List ℕ → Option Socket
target_named w kind name = option_and_then (socket_at w) (named w.files (set_of kind) name)

-- The same, where there is one.
abbrev pub socket_named : World → SockType → List ℕ → Socket
socket_named w kind name = unwrap_or (target_named w kind name) no_socket

-- Whether fewer than k descriptors of the table are free (open(2), EMFILE).
abbrev pub is_short : Process → ℕ → Bool
is_short q k = nat_lt (length (free_numbers q)) k

-- Whether k files more beside these are too many, or have no inode numbers left where the next one
-- is n (open(2), ENFILE).
abbrev pub is_full_of : Map File → ℕ → ℕ → Bool
is_full_of files n k = nat_lt MAX_FILES (map.len files + k) || nat_lt (MAX_INO + 1) (n + k)

-- The same of a world (open(2), ENFILE).
abbrev pub is_full : World → ℕ → Bool
is_full w k = is_full_of w.files w.next_ino k

-- Whether there can be no further process (fork(2), EAGAIN).
abbrev pub is_at_process_limit : World → Bool
is_at_process_limit w = nat_le MAX_PROCESSES (map.len w.processes) || nat_lt MAX_PID w.next_pid

-- Tests with their errors, in the order in which they are made.
abbrev pub RefusalRow : Type 0
RefusalRow = List (Bool × Errno)

-- The error of the first test that fits.
abbrev pub first_fit : RefusalRow → Option Errno
first_fit [] = None
first_fit (r ∷ rs) = if r.0 then Some r.1 else first_fit rs

-- ---- The parts of rows: each lists the tests of one look-up, over what it needs only.

-- A process must be there (kill(2), ESRCH).
abbrev pub on_process : Option Process → RefusalRow
on_process process = (not (is_some process), ESRCH) ∷ []

-- A descriptor must be open (close(2), EBADF).
abbrev pub on_number : Option ℕ → RefusalRow
on_number file = (is_none file, EBADF) ∷ []

-- The file must be a socket (bind(2), ENOTSOCK).
abbrev pub on_socket : Option Socket → RefusalRow
on_socket socket = (is_none socket, ENOTSOCK) ∷ []

-- The process must have k descriptors free (open(2), EMFILE).
abbrev pub on_free : Process → ℕ → RefusalRow
on_free q k = (is_short q k, EMFILE) ∷ []

-- The world must have room for k files more (open(2), ENFILE).
abbrev pub on_files : World → ℕ → RefusalRow
on_files w k = (is_full w k, ENFILE) ∷ []

-- The world must have room for a process more (fork(2), EAGAIN).
abbrev pub on_processes : World → RefusalRow
on_processes w = (is_at_process_limit w, EAGAIN) ∷ []

-- A number in place of n must be n, or below the limit of the process (dup2(2), EBADF).
abbrev pub on_place : Process → ℕ → ℕ → RefusalRow
on_place q n m = (not (nat_eq m n) && nat_le q.limit m, EBADF) ∷ []

-- A limit on descriptors must be in its range (setrlimit(2); ERANGE is this project's profile).
abbrev pub on_limit : ℕ → RefusalRow
on_limit nofile = (nat_lt MAX_NOFILE nofile, ERANGE) ∷ []

-- The socket must be new and nameless, and these bytes a name (bind(2), EINVAL).
abbrev pub on_bind : Socket → List ℕ → RefusalRow
on_bind s name = (
  not (is_none s.name) || is_connected s.state || is_listening s.state || not (is_name name),
  EINVAL,
) ∷ []

-- The name must be nobody's (bind(2), EADDRINUSE).
abbrev pub on_name : Option ℕ → RefusalRow
on_name owner = (not (is_none owner), EADDRINUSE) ∷ []

-- The socket must be for connections, have a name and be new, and b be a right backlog (listen(2),
-- EOPNOTSUPP, EINVAL).
abbrev pub on_listen : Socket → ℕ → RefusalRow
on_listen s b = (is_datagram s.kind, EOPNOTSUPP) ∷ (
  is_none s.name || is_connected s.state || is_listening s.state
      || not (is_between 1 MAX_BACKLOG b),
  EINVAL,
) ∷ []

-- The socket must be for datagrams (connect(2), EINVAL).
abbrev pub on_datagrams : Socket → RefusalRow
on_datagrams s = (not (is_datagram s.kind), EINVAL) ∷ []

-- A connecting socket must be new, or for datagrams (connect(2), EISCONN).
abbrev pub on_client : State → RefusalRow
on_client s = (is_listening s, EINVAL) ∷ (is_connected s, EISCONN) ∷ []

-- A connect needs a listener, whose input is open, of the same type with room in its backlog
-- (connect(2), ECONNREFUSED, EPROTOTYPE, EAGAIN).
abbrev pub on_listener : Socket → SockType → RefusalRow
on_listener s kind =
    (not (is_listening s.state) || s.ends.no_input, ECONNREFUSED)
    ∷ (not (is_same_type s.kind kind), EPROTOTYPE)
    ∷ (nat_le (room_of s.state) (length s.backlog), EAGAIN)
    ∷ []

-- The socket must be for connections and listen, and an embryo wait there (accept(2), EOPNOTSUPP,
-- EINVAL, EAGAIN).
abbrev pub on_accept : Socket → RefusalRow
on_accept s =
    (is_datagram s.kind, EOPNOTSUPP)
    ∷ (not (is_listening s.state), EINVAL)
    ∷ (nat_eq (length s.backlog) 0, EAGAIN)
    ∷ []

-- A message must have a valid number of bytes and of descriptors, each of them open by this look-up
-- (sendmsg(2); unix(7), SCM_RIGHTS).
abbrev pub on_parts : (ℕ → Option ℕ) → List ℕ → List ℕ → RefusalRow
on_parts look bytes attach =
    (nat_eq (length bytes) 0 || nat_lt SCM_MAX_FD (length attach), EINVAL)
    ∷ (nat_lt MAX_BYTES (length bytes), EMSGSIZE)
    ∷ (list_any (λ n. is_none (look n)) attach, EBADF)
    ∷ []

-- A sending socket must have somebody to talk to, and its output be open (sendmsg(2), ENOTCONN,
-- EPIPE).
abbrev pub on_peer : Socket → RefusalRow
on_peer s =
    (not (is_linked s), ENOTCONN)
    ∷ (is_hung_up s.state || s.ends.no_output, EPIPE)
    ∷ (nat_eq (peer_of s.state) 0, ENOTCONN)
    ∷ []

-- The socket to which f sends or connects must be live, and take from f: a datagram socket that sends
-- to another takes from that one alone (connect(2), ECONNREFUSED, EPERM).
abbrev pub on_target : ℕ → Option Socket → RefusalRow
on_target f target =
    (is_none target, ECONNREFUSED)
    ∷ (option_map_or (λ t. sends_elsewhere f t.state) target false, EPERM)
    ∷ []

-- A message with this many files must not be too much in flight, for a user with this charge and
-- limit, where all users together have that total (unix(7), ETOOMANYREFS; that the new ones do not
-- count for the user, and ENOBUFS, are this project's profile).
abbrev pub on_charge : ℕ → ℕ → ℕ → Bool → ℕ → RefusalRow
on_charge charge total limit privileged files =
    (nat_lt 0 files && (not privileged && nat_lt limit charge), ETOOMANYREFS)
    ∷ (nat_lt MAX_INFLIGHT (total + files), ENOBUFS)
    ∷ []

-- The input of the peer must be open (shutdown(2), sendmsg(2), EPIPE).
abbrev pub on_input : Bool → RefusalRow
on_input deaf = (deaf, EPIPE) ∷ []

-- The queue must have room for a message more (sendmsg(2), EAGAIN).
abbrev pub on_room : List Message → RefusalRow
on_room queue = (nat_le MAX_MESSAGES (length queue), EAGAIN) ∷ []

-- The socket must have something to give to a receive of at most n bytes (recvmsg(2), EINVAL,
-- ENOTCONN, EAGAIN).
abbrev pub on_receive : Socket → ℕ → RefusalRow
on_receive s max_bytes =
    (not (is_between 1 MAX_BYTES max_bytes), EINVAL)
    ∷ (not (is_linked s), ENOTCONN)
    ∷ (nat_eq (length s.queue) 0 && not (is_ended s), EAGAIN)
    ∷ []

-- ---- The rows, each the joining of its parts.

-- Descriptor n of process p must be a socket (bind(2), EBADF, ENOTSOCK).
abbrev pub at_socket : World → ℕ → ℕ → RefusalRow
at_socket w p n = on_number (table_at w p n) ++ on_socket (socket_at w (ino_on w p n))

-- Why a receive of at most k bytes is refused, also as a peek (recvmsg(2), MSG_PEEK).
abbrev pub recv_row : World → ℕ → ℕ → ℕ → RefusalRow
recv_row w p n max_bytes = at_socket w p n ++ on_receive (socket_on w p n) max_bytes

-- Why a process cannot start (getrlimit(2); fork(2), EAGAIN; this project's profile).
abbrev pub spawn_row : World → ℕ → RefusalRow
spawn_row w nofile = on_limit nofile ++ on_processes w

-- Why a step of a running process is refused, but for out of memory: open(2), dup(2), dup2(2),
-- close(2), fork(2), _exit(2), socketpair(2), socket(2), bind(2), listen(2), connect(2), accept(2),
-- sendmsg(2), recvmsg(2), setrlimit(2), shutdown(2), and connect(2) to AF_UNSPEC.
abbrev pub step_row : World → ℕ → Step → RefusalRow
step_row w p step.Open = on_free (process_at w p) 1 ++ on_files w 1
step_row w p (step.Dup n) = on_number (table_at w p n) ++ on_free (process_at w p) 1
step_row w p (step.Dup2 n m) = on_number (table_at w p n) ++ on_place (process_at w p) n m
step_row w p (step.Close n) = on_number (table_at w p n)
step_row w p step.Fork = on_processes w
step_row w p step.Exit = []
step_row w p (step.Pair kind) = on_free (process_at w p) 2 ++ on_files w 2
step_row w p (step.Socket kind) = on_free (process_at w p) 1 ++ on_files w 1
step_row w p (step.Bind n name) =
    let s = socket_on w p n in
    at_socket w p n ++ on_bind s name ++ on_name (named w.files (set_of s.kind) name)
step_row w p (step.Listen n b) = at_socket w p n ++ on_listen (socket_on w p n) b
step_row w p (step.Connect n name) =
    let s = socket_on w p n in
    at_socket w p n
    ++ on_client s.state
    ++ (if is_datagram s.kind
    then on_target (ino_on w p n) (target_named w s.kind name)
    else on_listener (socket_named w s.kind name) s.kind ++ on_files w 1)
step_row w p (step.Accept n) =
    at_socket w p n ++ on_accept (socket_on w p n) ++ on_free (process_at w p) 1
step_row w p (step.Send n bytes attach) =
    let q = process_at w p in
    let s = socket_on w p n in
    at_socket w p n
    ++ on_parts (table_at w p) bytes attach
    ++ on_peer s
    ++ on_target (ino_on w p n) (socket_at w (peer_of s.state))
    ++ on_charge (charged w q.user) (total w) q.limit q.privileged (length attach)
    ++ on_input (is_deaf w (peer_of s.state))
    ++ on_room (queue_at w (peer_of s.state))
step_row w p (step.Recv n max_bytes max_fds) = recv_row w p n max_bytes
step_row w p (step.Peek n max_bytes max_fds) = recv_row w p n max_bytes
step_row w p (step.Limit n) = on_limit n
step_row w p (step.Shutdown n how) = at_socket w p n
step_row w p (step.Unconnect n) = at_socket w p n ++ on_datagrams (socket_on w p n)

-- The error with which a process cannot start, but for out of memory.
abbrev pub spawn_refusal : World → ℕ → Option Errno
spawn_refusal w nofile = first_fit (spawn_row w nofile)

-- The error of a refused step of process p, but for out of memory; an unknown process comes first
-- (kill(2), ESRCH).
abbrev pub refusal : World → ℕ → Step → Option Errno
refusal w p s = first_fit (on_process (map.get w.processes p) ++ step_row w p s)
