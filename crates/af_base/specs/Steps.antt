-- The reply and the effect of each step of a process. The definition that names no manual page is
-- of this project's profile (docs/PROFILE.md).
use Rattle.std.specs.Prelude.{◌≡◌, ◌⊎◌, ℕ, ◌+◌, Bool, true, false, List, length, filter_map, min, Option, Some, None, slice_get, slice_index, unwrap_or, nat_eq, nat_lt, if◌then◌else◌}
use Rattle.std.specs.List.{zip}
use Rattle.std.specs.FinMap as map
use Rattle.af_base.specs.declared.events.SockType.{SockType}
use Rattle.af_base.specs.declared.events.SockType.TheVariants.{Dgram, Seqpacket, Stream}
use Rattle.af_base.specs.declared.events.Shutdown.{Shutdown}
use Rattle.af_base.specs.declared.events.Shutdown.TheVariants as how
use Rattle.af_base.specs.declared.events.State.{State}
use Rattle.af_base.specs.declared.events.State.TheVariants as state
use Rattle.af_base.specs.declared.errno.Errno.{Errno}
use Rattle.af_base.specs.declared.errno.Errno.TheVariants.{ENOMEM}
use Rattle.af_base.specs.declared.events.Step.{Step}
use Rattle.af_base.specs.declared.events.Step.TheVariants as step
use Rattle.af_base.specs.declared.events.Reply.{Reply}
use Rattle.af_base.specs.declared.events.Reply.TheVariants as reply
use Rattle.af_base.specs.World.{World, Socket, Plain, AsSocket}
use Rattle.af_base.specs.Places.{table_at}
use Rattle.af_base.specs.Changes.{aimed, dequeued, add_file, add_process, add_user, with_name, connected, install, install_all, listening, push_message, queued, remove_process, set_limit, shut, uninstall, with_queue, with_socket}
use Rattle.af_base.specs.Table.{free_numbers, lowest_free}
use Rattle.af_base.specs.Take.{TakeResult, take_from}
use Rattle.af_base.specs.Unheld.{Settles}
use Rattle.af_base.specs.Refusals.{connected_to, ino_named, ino_on, is_datagram, no_socket, peer_of, process_at, refusal, socket_named, socket_on, spawn_refusal}

-- The k-th of the free numbers of process p, from 0.
abbrev pub free_at : World → ℕ → ℕ → ℕ
free_at w p k = slice_index (free_numbers (process_at w p)) k

-- A new socket that is connected to this one.
abbrev pub connected_socket : SockType → ℕ → Socket
connected_socket kind peer = record no_socket { kind = kind; state = state.Connected peer }

-- The state of a socket of a pair: connected to the other, or a datagram socket that sends there
-- (socketpair(2)).
abbrev pub paired_state : SockType → ℕ → State
paired_state Stream other = state.Connected other
paired_state Seqpacket other = state.Connected other
paired_state Dgram other = state.Sends other

-- A new socket of a pair with this one.
abbrev pub paired_socket : SockType → ℕ → Socket
paired_socket kind other = record no_socket { kind = kind; state = paired_state kind other }

-- The world with two sockets more, connected to each other (socketpair(2)).
abbrev pub with_pair : World → SockType → World
with_pair w kind = add_file (add_file w (AsSocket (paired_socket kind (w.next_ino + 1))))
    (AsSocket (paired_socket kind w.next_ino))

-- A new socket that was never connected (socket(2)).
abbrev pub idle_socket : SockType → Socket
idle_socket kind = record no_socket { kind = kind }

-- The world where the client c is connected to a new embryo, which waits last in the backlog of the
-- listener l (connect(2); the embryo is this project's own).
abbrev pub with_embryo : World → ℕ → ℕ → SockType → World
with_embryo w c l kind = with_socket
    (with_socket (add_file w (AsSocket (connected_socket kind c))) c (connected w.next_ino)) l
    (queued w.next_ino)

-- The embryo that process p accepts at n: the first that waits there, or 0, which is no inode
-- number (accept(2)).
abbrev pub first_embryo : World → ℕ → ℕ → ℕ
first_embryo w p n = unwrap_or (slice_get (socket_on w p n).backlog 0) 0

-- Whether the input is closed (shutdown(2), SHUT_RD, SHUT_RDWR).
abbrev pub closes_input : Shutdown → Bool
closes_input how.Read = true
closes_input how.Write = false
closes_input how.Both = true

-- Whether the output is closed (shutdown(2), SHUT_WR, SHUT_RDWR).
abbrev pub closes_output : Shutdown → Bool
closes_output how.Read = false
closes_output how.Write = true
closes_output how.Both = true

-- The world where these ends of the socket f are closed, and with them the ends of its peer q, which
-- is 0 where there is none, that they meet (shutdown(2)).
abbrev pub with_shut : World → ℕ → ℕ → Shutdown → World
with_shut w f q how = with_socket
    (with_socket w f (shut (closes_input how) (closes_output how))) q
    (shut (closes_output how) (closes_input how))

-- The messages that a receive takes.
abbrev pub taken_on : World → ℕ → ℕ → ℕ → TakeResult
taken_on w p n max_bytes = take_from (socket_on w p n).kind (socket_on w p n).queue max_bytes

-- The numbers at which a receive installs files: as many as were taken, as it may, and as are free
-- (cmsg(3), SCM_RIGHTS).
abbrev pub got_at : World → ℕ → ℕ → ℕ → ℕ → List ℕ
got_at w p n max_bytes max_fds = lowest_free
    (min (length (taken_on w p n max_bytes).attached) max_fds) (process_at w p)

-- The world with a new process: its table is empty, and a new user is added at the end of the list.
abbrev pub spawned : World → ℕ → ℕ → Bool → World
spawned w uid nofile privileged = add_user (add_process w
    (record { user = uid; limit = nofile; privileged = privileged; table = map.empty })) uid

-- The reply of a receive: an empty receive is End, where nothing is left and the peer was freed or
-- the input is closed (recvmsg(2)).
abbrev pub received : World → ℕ → ℕ → ℕ → ℕ → Reply
received w p n max_bytes max_fds =
    let taken = taken_on w p n max_bytes in
    let got = got_at w p n max_bytes max_fds in
    if nat_eq (length (socket_on w p n).queue) 0
    then reply.End
    else reply.Got taken.bytes got taken.trunc (nat_lt (length got) (length taken.attached))

-- The world after the places were changed, which is then settled, where nothing refuses the step
-- (open(2), dup(2), dup2(2), close(2), fork(2), _exit(2), socketpair(2), socket(2), bind(2),
-- listen(2), connect(2), accept(2), sendmsg(2), recvmsg(2), setrlimit(2), shutdown(2)). A connect of
-- a datagram socket sets its target, and one to AF_UNSPEC leaves it none.
abbrev pub effect : World → ℕ → Step → World
effect w p step.Open = install (add_file w Plain) p (free_at w p 0) w.next_ino
effect w p (step.Dup n) = install w p (free_at w p 0) (ino_on w p n)
effect w p (step.Dup2 n m) = if nat_eq m n then w else install w p m (ino_on w p n)
effect w p (step.Close n) = uninstall w p n
effect w p step.Fork = add_process w (process_at w p)
effect w p step.Exit = remove_process w p
effect w p (step.Pair kind) = install (install (with_pair w kind) p (free_at w p 0) w.next_ino) p
    (free_at w p 1) (w.next_ino + 1)
effect w p (step.Socket kind) = install (add_file w (AsSocket (idle_socket kind))) p
    (free_at w p 0) w.next_ino
effect w p (step.Bind n name) = with_socket w (ino_on w p n) (with_name name)
effect w p (step.Listen n b) = with_socket w (ino_on w p n) (listening b)
effect w p (step.Connect n name) =
    let kind = (socket_on w p n).kind in
    let there = ino_named w kind name in
    if is_datagram kind
    then with_socket w (ino_on w p n) (aimed there)
    else with_embryo w (ino_on w p n) there (socket_named w kind name).kind
effect w p (step.Accept n) = install (with_socket w (ino_on w p n) dequeued) p (free_at w p 0)
    (first_embryo w p n)
effect w p (step.Send n bytes attach) = push_message w (peer_of (socket_on w p n).state) (record {
  bytes = bytes;
  attached = filter_map (table_at w p) attach;
  user = (process_at w p).user;
})
effect w p (step.Recv n max_bytes max_fds) =
    let taken = taken_on w p n max_bytes in
    install_all (with_queue w (ino_on w p n) taken.rest) p
    (zip (got_at w p n max_bytes max_fds) taken.attached)
effect w p (step.Peek n max_bytes max_fds) = install_all w p
    (zip (got_at w p n max_bytes max_fds) (taken_on w p n max_bytes).attached)
effect w p (step.Limit n) = set_limit w p n
effect w p (step.Shutdown n how) =
    with_shut w (ino_on w p n) (connected_to (socket_on w p n).state) how
effect w p (step.Unconnect n) = with_socket w (ino_on w p n) (aimed 0)

-- The answer, where nothing refuses the step: a peek answers what a receive would (recvmsg(2),
-- MSG_PEEK).
abbrev pub answer : World → ℕ → Step → Reply
answer w p step.Open = reply.Fd (free_at w p 0)
answer w p (step.Dup n) = reply.Fd (free_at w p 0)
answer w p (step.Dup2 n m) = reply.Fd m
answer w p (step.Close n) = reply.Ok
answer w p step.Fork = reply.Pid w.next_pid
answer w p step.Exit = reply.Ok
answer w p (step.Pair kind) = reply.Fds (free_at w p 0) (free_at w p 1)
answer w p (step.Socket kind) = reply.Fd (free_at w p 0)
answer w p (step.Bind n name) = reply.Ok
answer w p (step.Listen n b) = reply.Ok
answer w p (step.Connect n name) = reply.Ok
answer w p (step.Accept n) = reply.Fd (free_at w p 0)
answer w p (step.Send n bytes attach) = reply.Sent (length bytes)
answer w p (step.Recv n max_bytes max_fds) = received w p n max_bytes max_fds
answer w p (step.Peek n max_bytes max_fds) = received w p n max_bytes max_fds
answer w p (step.Limit n) = reply.Ok
answer w p (step.Shutdown n how) = reply.Ok
answer w p (step.Unconnect n) = reply.Ok

-- Whether the step never needs memory: a close, an exit, a changed limit, a shutdown, a connect to
-- AF_UNSPEC, and a number put in place of itself (dup2(2): nothing is done; this project's profile).
abbrev pub needs_no_memory : Step → Bool
needs_no_memory (step.Dup2 n m) = nat_eq m n
needs_no_memory (step.Close n) = true
needs_no_memory step.Exit = true
needs_no_memory (step.Limit n) = true
needs_no_memory (step.Shutdown n how) = true
needs_no_memory (step.Unconnect n) = true
needs_no_memory s = false

-- The outcome of a step: refused by an error and nothing changed; or answered, and the changed
-- world settled; or, where the step may need memory, refused with ENOMEM and nothing changed.
abbrev pub Outcome : Option Errno → Bool → Reply → World → World → Reply → World → Type 0
Outcome (Some e) frugal answer effect old r new = (r ≡ reply.Refused e) × (new ≡ old)
Outcome None true answer effect old r new = (r ≡ answer) × Settles effect new
Outcome None false answer effect old r new = ((r ≡ answer) × Settles effect new)
    ⊎ ((r ≡ reply.Refused ENOMEM) × (new ≡ old))

-- From the world `old` process p may get this reply to the step, and then the world is `new`.
abbrev pub ProcessStep : World → ℕ → Step → Reply → World → Type 0
ProcessStep old p s r new = Outcome (refusal old p s) (needs_no_memory s) (answer old p s)
    (effect old p s) old r new

-- From the world `old` a process may start with this reply, and then the world is `new`.
abbrev pub SpawnStep : World → ℕ → ℕ → Bool → Reply → World → Type 0
SpawnStep old uid nofile privileged r new = Outcome (spawn_refusal old nofile) false
    (reply.Pid old.next_pid) (spawned old uid nofile privileged) old r new
