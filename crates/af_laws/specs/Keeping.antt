-- Laws of old worlds, to which only the events of the specification led: they stay old, and each
-- definition reads in them as it did before this project added events of its own. The table of
-- events in docs/DEFINITIONS.md marks these. Definitions here are this project's own; one whose name
-- ends in `_then` is what the definition was.
use Rattle.std.specs.Prelude.{◌≡◌, ◌↔◌, ◌||◌, ◌++◌, ◌+◌, ℕ, Bool, true, false, not, ◌&&◌, List, [], ◌∷◌, Option, Some, is_none, length, nat_eq, nat_le, option_map, unwrap_or}
use Rattle.std.specs.List.{All, find}
use Rattle.std.specs.Option.{option_and_then, option_map_or}
use Rattle.std.specs.Str.{bytes_eq}
use Rattle.std.specs.FinMap as map
use Rattle.af_base.specs.declared.errno.Errno.{Errno}
use Rattle.af_base.specs.declared.errno.Errno.TheVariants.{EAGAIN, ECONNREFUSED, EINVAL, ENOTCONN, EPIPE, EPROTOTYPE}
use Rattle.af_base.specs.declared.events.Event.{Event}
use Rattle.af_base.specs.declared.events.Event.TheVariants as event
use Rattle.af_base.specs.declared.events.Reply.{Reply}
use Rattle.af_base.specs.declared.events.SockType.{SockType}
use Rattle.af_base.specs.declared.events.State.TheVariants as state
use Rattle.af_base.specs.declared.events.Step.{Step}
use Rattle.af_base.specs.declared.events.Step.TheVariants as step
use Rattle.af_base.specs.declared.limits.TheConstants.{MAX_BACKLOG, MAX_BYTES}
use Rattle.af_base.specs.declared.ready.Ready.{Ready}
use Rattle.af_base.specs.World.{AsSocket, File, Map, Message, Plain, Socket, World, open_ends}
use Rattle.af_base.specs.Changes.{add_file, install}
use Rattle.af_base.specs.Counts.{charged, total}
use Rattle.af_base.specs.Names.{is_between, named, set_of}
use Rattle.af_base.specs.Pass.{Machine, SamePass}
use Rattle.af_base.specs.Places.{queue_at, queue_in, table_at}
use Rattle.af_base.specs.Ready.{found, ready_in}
use Rattle.af_base.specs.Refusals.{RefusalRow, at_socket, first_fit, is_connected, is_datagram, is_hung_up, ino_on, is_listening, is_same_type, no_socket, on_bind, on_charge, on_client, on_files, on_free, on_name, on_parts, on_process, on_room, peer_of, process_at, refusal, room_of, socket_at, socket_on, step_row}
use Rattle.af_base.specs.Run.{Run, RunEntry, Step as MachineStep, fresh}
use Rattle.af_base.specs.Steps.{Outcome, answer, connected_socket, effect, free_at, needs_no_memory, with_embryo}
use Rattle.af_base.specs.Whole.{IsSound, IsWhole, bound_at, name_at}

-- ---- Old events and old worlds.

-- The step is one of the specification's: it makes no datagram socket.
abbrev pub IsOldStep : Step → Type 0
IsOldStep step.Open = Unit {0}
IsOldStep (step.Dup n) = Unit {0}
IsOldStep (step.Dup2 n m) = Unit {0}
IsOldStep (step.Close n) = Unit {0}
IsOldStep step.Fork = Unit {0}
IsOldStep step.Exit = Unit {0}
IsOldStep (step.Pair kind) = is_datagram kind ≡ false
IsOldStep (step.Socket kind) = is_datagram kind ≡ false
IsOldStep (step.Bind n name) = Unit {0}
IsOldStep (step.Listen n b) = Unit {0}
IsOldStep (step.Connect n name) = Unit {0}
IsOldStep (step.Accept n) = Unit {0}
IsOldStep (step.Send n bytes attach) = Unit {0}
IsOldStep (step.Recv n max_bytes max_fds) = Unit {0}
IsOldStep (step.Peek n max_bytes max_fds) = Unit {0}
IsOldStep (step.Limit n) = Unit {0}
IsOldStep (step.Shutdown n how) = ⊥
IsOldStep (step.Unconnect n) = ⊥

-- The event is one of the specification's.
abbrev pub IsOldEvent : Event → Type 0
IsOldEvent (event.Spawn uid nofile privileged) = Unit {0}
IsOldEvent (event.Proc p s) = IsOldStep s
IsOldEvent event.Begin = Unit {0}
IsOldEvent (event.Slice b) = Unit {0}
IsOldEvent event.Pass = Unit {0}

-- A socket that is one of the specification's: it is for connections and has no target, and what it
-- has besides is always the same, since both ends are open.
pub record IsOldSocket (s : Socket) : Type 0 where
  pub ends : s.ends ≡ open_ends
  pub kind : is_datagram s.kind ≡ false
  pub target : (q : ℕ) → ¬ (s.state ≡ state.Sends q)

-- Each socket of these files is old.
abbrev pub AreOld : Map File → Type 0
AreOld files = (f : ℕ) (s : Socket) → map.get files f ≡ Some (AsSocket s) → IsOldSocket s

-- Each socket of the world is old.
abbrev pub IsOldWorld : World → Type 0
IsOldWorld w = AreOld w.files

-- The world of the machine is old, and so are the files when the list of changed readiness was last
-- emptied.
pub record IsOldMachine (m : Machine) : Type 0 where
  pub world : IsOldWorld m.world
  pub since : AreOld m.since.files

-- The machine before anything has happened is old.
abbrev pub FreshIsOld : Type 0
FreshIsOld = IsOldMachine fresh

-- A run of old events from an old machine leads to an old one.
abbrev pub OldWorldsStayOld : Type 0
OldWorldsStayOld =
    (old new : Machine) (log : List RunEntry) → IsOldMachine old → All (λ e. IsOldEvent e.0) log
    → Run old log new → IsOldMachine new

-- ---- The definitions as they were.

-- A sending socket must have somebody to talk to (sendmsg(2), ENOTCONN, EPIPE).
abbrev pub on_peer_then : Socket → RefusalRow
on_peer_then s = (not (is_connected s.state), ENOTCONN) ∷ (is_hung_up s.state, EPIPE) ∷ []

-- A connect needs a listener of the same type with room in its backlog (connect(2), ECONNREFUSED,
-- EPROTOTYPE, EAGAIN).
abbrev pub on_listener_then : Socket → SockType → RefusalRow
on_listener_then s kind =
    (not (is_listening s.state), ECONNREFUSED)
    ∷ (not (is_same_type s.kind kind), EPROTOTYPE)
    ∷ (nat_le (room_of s.state) (length s.backlog), EAGAIN)
    ∷ []

-- The socket must have a name and be new, and b be a right backlog (listen(2), EINVAL).
abbrev pub on_listen_then : Socket → ℕ → RefusalRow
on_listen_then s b = (
  is_none s.name || is_connected s.state || is_listening s.state
      || not (is_between 1 MAX_BACKLOG b),
  EINVAL,
) ∷ []

-- The socket must listen, and an embryo wait there (accept(2), EINVAL, EAGAIN).
abbrev pub on_accept_then : Socket → RefusalRow
on_accept_then s =
    (not (is_listening s.state), EINVAL) ∷ (nat_eq (length s.backlog) 0, EAGAIN) ∷ []

-- The socket must have something to give to a receive of at most n bytes (recvmsg(2), EINVAL,
-- ENOTCONN, EAGAIN).
abbrev pub on_receive_then : Socket → ℕ → RefusalRow
on_receive_then s max_bytes =
    (not (is_between 1 MAX_BYTES max_bytes), EINVAL)
    ∷ (not (is_connected s.state), ENOTCONN)
    ∷ (nat_eq (length s.queue) 0 && not (is_hung_up s.state), EAGAIN)
    ∷ []

-- Whether the file is a socket of this name.
abbrev pub has_name_then : List ℕ → File → Bool
has_name_then name Plain = false
has_name_then name (AsSocket s) = option_map_or (bytes_eq name) s.name false

-- The file of these that has the name, if there is one (unix(7), abstract).
abbrev pub named_then : Map File → List ℕ → Option ℕ
named_then files name =
    option_map (λ e. e.0) (find (λ e. has_name_then name e.1) (map.entries files))

-- The inode number of the live socket of this name, or 0, which is none.
abbrev pub ino_named_then : World → List ℕ → ℕ
ino_named_then w name = unwrap_or (named_then w.files name) 0

-- The live socket of this name.
abbrev pub socket_named_then : World → List ℕ → Socket
socket_named_then w name =
    unwrap_or (option_and_then (socket_at w) (named_then w.files name)) no_socket

-- Why a receive of at most k bytes is refused, also as a peek (recvmsg(2), MSG_PEEK).
abbrev pub recv_row_then : World → ℕ → ℕ → ℕ → RefusalRow
recv_row_then w p n max_bytes = at_socket w p n ++ on_receive_then (socket_on w p n) max_bytes

-- Why a step of a running process is refused, but for out of memory.
abbrev pub step_row_then : World → ℕ → Step → RefusalRow
step_row_then w p (step.Bind n name) = at_socket w p n ++ on_bind (socket_on w p n) name
    ++ on_name (named_then w.files name)
step_row_then w p (step.Listen n b) = at_socket w p n ++ on_listen_then (socket_on w p n) b
step_row_then w p (step.Connect n name) =
    let s = socket_on w p n in
    at_socket w p n
    ++ on_client s.state
    ++ on_listener_then (socket_named_then w name) s.kind
    ++ on_files w 1
step_row_then w p (step.Accept n) =
    at_socket w p n ++ on_accept_then (socket_on w p n) ++ on_free (process_at w p) 1
step_row_then w p (step.Send n bytes attach) =
    let q = process_at w p in
    let s = socket_on w p n in
    at_socket w p n
    ++ on_parts (table_at w p) bytes attach
    ++ on_peer_then s
    ++ on_charge (charged w q.user) (total w) q.limit q.privileged (length attach)
    ++ on_room (queue_at w (peer_of s.state))
step_row_then w p (step.Recv n max_bytes max_fds) = recv_row_then w p n max_bytes
step_row_then w p (step.Peek n max_bytes max_fds) = recv_row_then w p n max_bytes
step_row_then w p s = step_row w p s

-- The error of a refused step of process p, but for out of memory.
abbrev pub refusal_then : World → ℕ → Step → Option Errno
refusal_then w p s = first_fit (on_process (map.get w.processes p) ++ step_row_then w p s)

-- A receive of a byte from this socket, or an accept at it, is not refused (poll(2), POLLIN).
abbrev pub reads_then : Socket → Bool
reads_then s =
    is_none (first_fit (on_receive_then s 1)) || is_none (first_fit (on_accept_then s))

-- This socket has a peer, whose queue, which is this one, has room (poll(2), POLLOUT).
abbrev pub writes_then : Socket → List Message → Bool
writes_then s queue = is_none (first_fit (on_peer_then s ++ on_room queue))

-- The readiness of a file among these (poll(2)); hung up is one whose peer was freed.
abbrev pub ready_of_then : Map File → File → Ready
ready_of_then files Plain = record { readable = true; writable = true; hung_up = false }
ready_of_then files (AsSocket s) = record {
  readable = reads_then s;
  writable = writes_then s (queue_in files (peer_of s.state));
  hung_up = is_hung_up s.state;
}

-- The readiness of the file f of these (poll(2)).
abbrev pub ready_in_then : Map File → ℕ → Option Ready
ready_in_then files f = option_map (ready_of_then files) (map.get files f)

-- The readiness that steps of process p find at descriptor n.
abbrev pub found_then : World → ℕ → ℕ → Ready
found_then w p n = record {
  readable = is_none (refusal_then w p (step.Recv n 1 0)) || is_none (first_fit
      (on_process (map.get w.processes p)
      ++ (at_socket w p n ++ on_accept_then (socket_on w p n))));
  writable = is_none (refusal_then w p (step.Send n (0 ∷ []) []));
  hung_up = is_hung_up (socket_on w p n).state;
}

-- The world with two sockets more, connected to each other (socketpair(2)).
abbrev pub with_pair_then : World → SockType → World
with_pair_then w kind = add_file (add_file w (AsSocket (connected_socket kind (w.next_ino + 1))))
    (AsSocket (connected_socket kind w.next_ino))

-- The world after the places were changed, which is then settled, where nothing refuses the step.
abbrev pub effect_then : World → ℕ → Step → World
effect_then w p (step.Pair kind) = install
    (install (with_pair_then w kind) p (free_at w p 0) w.next_ino) p (free_at w p 1)
    (w.next_ino + 1)
effect_then w p (step.Connect n name) =
    with_embryo w (ino_on w p n) (ino_named_then w name) (socket_named_then w name).kind
effect_then w p s = effect w p s

-- From the world `old` process p may get this reply to the step, and then the world is `new`.
-- Taken as they are now: which steps need no memory, what is answered, and the rows and effects of
-- the steps that none of these definitions lists.
abbrev pub ProcessStepThen : World → ℕ → Step → Reply → World → Type 0
ProcessStepThen old p s r new = Outcome (refusal_then old p s) (needs_no_memory s) (answer old p s)
    (effect_then old p s) old r new

-- One step: from `old` this reply to the event, and then the machine is `new`.
abbrev pub StepThen : Machine → Event → Reply → Machine → Type 0
StepThen old (event.Proc p s) r new = ProcessStepThen old.world p s r new.world × SamePass old new
StepThen old e r new = MachineStep old e r new

-- The events with these replies lead from `old` to `new`, one step after another.
abbrev pub RunThen : Machine → List RunEntry → Machine → Type 0
RunThen old [] new = new ≡ old
RunThen old (e ∷ es) new = (mid : Machine) × StepThen old e.0 e.1 mid × RunThen mid es new

-- ---- What they say is the same.

-- These read in this world as they did: refusals and effects of old steps, whom a name finds of a
-- socket for connections, which
-- files have one name, the readiness of files, and what steps find of it. The effect of an old step
-- is old again.
pub record ReadsAsThen (w : World) : Type 0 where
  pub refusals : (p : ℕ) (s : Step) → IsOldStep s → refusal w p s ≡ refusal_then w p s
  pub names : (kind : SockType) (name : List ℕ) → is_datagram kind ≡ false
      → named w.files (set_of kind) name ≡ named_then w.files name
  pub bindings : (f g : ℕ) → (bound_at w f ≡ bound_at w g) ↔ (name_at w f ≡ name_at w g)
  pub changes : (p : ℕ) (s : Step) → IsOldStep s → effect w p s ≡ effect_then w p s
  pub effects : (p : ℕ) (s : Step) → IsOldStep s → IsOldWorld (effect w p s)
  pub readiness : (f : ℕ) → ready_in w.files f ≡ ready_in_then w.files f
  pub findings : (p n : ℕ) → found w p n ≡ found_then w p n

-- In an old world that is whole, so that peers are there, each definition reads as it did.
abbrev pub OldWorldsReadAsThen : Type 0
OldWorldsReadAsThen = (w : World) → IsWhole w → IsOldWorld w → ReadsAsThen w

-- Old events have the same runs from an old machine whose world is sound, by the definitions as
-- they are and as they were.
abbrev pub OldRunsAreRunsThen : Type 0
OldRunsAreRunsThen =
    (old new : Machine) (log : List RunEntry) → IsSound old.world → IsOldMachine old
    → All (λ e. IsOldEvent e.0) log → Run old log new ↔ RunThen old log new
