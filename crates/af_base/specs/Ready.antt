-- The readiness of a file (poll(2)), and the files whose readiness a step can change. Definitions
-- that name no manual page are this project's own.
use Rattle.std.specs.Prelude.{◌≡◌, ℕ, Bool, true, false, not, Option, Some, ◌||◌, ◌&&◌, ◌++◌, List, [], ◌∷◌, is_none, length, nat_le, option_map, if◌then◌else◌}
use Rattle.std.specs.List.{Contains}
use Rattle.std.specs.Option.{option_map_or}
use Rattle.std.specs.FinMap as map
use Rattle.af_base.specs.declared.errno.Errno.{Errno}
use Rattle.af_base.specs.declared.errno.Errno.TheVariants.{EAGAIN}
use Rattle.af_base.specs.declared.events.Ends.{Ends}
use Rattle.af_base.specs.declared.events.SockType.{SockType}
use Rattle.af_base.specs.declared.events.State.{State}
use Rattle.af_base.specs.declared.events.State.TheVariants as state
use Rattle.af_base.specs.declared.events.Step.{Step}
use Rattle.af_base.specs.declared.events.Step.TheVariants as step
use Rattle.af_base.specs.declared.limits.TheConstants.{MAX_MESSAGES}
use Rattle.af_base.specs.declared.ready.Ready.{Ready}
use Rattle.af_base.specs.World.{AsSocket, File, IsLive, Map, Plain, Socket, World}
use Rattle.af_base.specs.Refusals.{at_socket, connected_to, first_fit, ino_named, ino_on, is_datagram, is_hung_up, on_accept, on_input, on_peer, on_process, on_receive, on_room, on_target, peer_of, refusal, socket_in, socket_on}
use Rattle.af_base.specs.Whole.{state_at}

-- A receive of a byte from this socket, or an accept at it, is not refused (poll(2), POLLIN).
abbrev pub reads : Socket → Bool
reads s = is_none (first_fit (on_receive s 1)) || is_none (first_fit (on_accept s))

-- A send from f, which is this socket, to the one where it sends, if that is there, is refused at
-- most for want of room.
abbrev pub reaches : ℕ → Socket → Option Socket → Bool
reaches f s target = is_none (first_fit (on_peer s ++ on_target f target
    ++ on_input (option_map_or (λ t. t.ends.no_input) target false)))

-- That one has room for a message.
abbrev pub has_room : Option Socket → Bool
has_room target = is_none (first_fit (on_room (option_map_or (λ t. t.queue) target [])))

-- A send from f, which is this socket, is not refused; one from a datagram socket does not wait for
-- room (poll(2), POLLOUT).
abbrev pub writes : ℕ → Socket → Option Socket → Bool
writes f s target = if is_datagram s.kind
    then not (reaches f s target) || has_room target
    else reaches f s target && has_room target

-- Its peer was freed, or both its ends are closed (poll(2), POLLHUP).
abbrev pub is_cut_off : Socket → Bool
is_cut_off s = is_hung_up s.state || (s.ends.no_input && s.ends.no_output)

-- The readiness of file f, which is this one, among these: a plain file is always ready (poll(2)).
abbrev pub ready_of : Map File → ℕ → File → Ready
ready_of files f Plain = record { readable = true; writable = true; hung_up = false }
ready_of files f (AsSocket s) = record {
  readable = reads s;
  writable = writes f s (socket_in files (peer_of s.state));
  hung_up = is_cut_off s;
}

-- The readiness of the file f of these; an unknown file is not ready (poll(2)).
abbrev pub ready_in : Map File → ℕ → Option Ready
ready_in files f = option_map (ready_of files f) (map.get files f)

-- The readiness of the file f.
abbrev pub ready : World → ℕ → Option Ready
ready w f = ready_in w.files f

-- Whether this answer to a send tells that it would wait (sendmsg(2), EAGAIN).
abbrev pub waits : Option Errno → Bool
waits (Some EAGAIN) = true
waits e = false

-- The readiness that steps of process p find at descriptor n: readable if a receive of one byte
-- without descriptors is not refused, or an accept is not before it needs a descriptor; writable if
-- a send of one byte is not refused, or, of a datagram socket, does not wait; hung up if the peer was
-- freed or both ends are closed.
abbrev pub found : World → ℕ → ℕ → Ready
found w p n = record {
  readable = is_none (refusal w p (step.Recv n 1 0)) || is_none (first_fit
      (on_process (map.get w.processes p) ++ (at_socket w p n ++ on_accept (socket_on w p n))));
  writable = if is_datagram (socket_on w p n).kind
      then not (waits (refusal w p (step.Send n (0 ∷ []) [])))
      else is_none (refusal w p (step.Send n (0 ∷ []) []));
  hung_up = is_cut_off (socket_on w p n);
}

-- The face of a file, from which its own and its peer's readiness follow: its type, whether it is
-- readable, whether its queue is full, its peer, and which of its ends are closed.
pub data Face : Type 0 where
  Blank : Face
  Shows :
      (kind : SockType) → (reads : Bool) → (full : Bool) → (state : State) → (ends : Ends) → Face

-- The face of a file.
abbrev pub face_of : File → Face
face_of Plain = Blank
face_of (AsSocket s) =
    Shows s.kind (reads s) (nat_le MAX_MESSAGES (length s.queue)) s.state s.ends

-- The face of the file f of these.
abbrev pub face_in : Map File → ℕ → Option Face
face_in files f = option_map face_of (map.get files f)

-- The same of a world.
abbrev pub face_at : World → ℕ → Option Face
face_at w f = face_in w.files f

-- The files whose own queue, backlog, state or ends a step of process p changes, of those that were
-- there, but for those whose peer is freed.
abbrev pub touched : World → ℕ → Step → List ℕ
touched w p (step.Listen n b) = ino_on w p n ∷ []
touched w p (step.Connect n name) = ino_on w p n ∷ ino_named w (socket_on w p n).kind name ∷ []
touched w p (step.Accept n) = ino_on w p n ∷ []
touched w p (step.Send n bytes attach) = peer_of (socket_on w p n).state ∷ []
touched w p (step.Recv n max_bytes max_fds) = ino_on w p n ∷ []
touched w p (step.Shutdown n how) = ino_on w p n ∷ connected_to (socket_on w p n).state ∷ []
touched w p (step.Unconnect n) = ino_on w p n ∷ []
touched w p s = []

-- The file f is not one of these, and its peer, if it has one, is live and is not one either; nor is
-- its target, which was not freed.
pub record IsLeftAlone (old new : World) (these : List ℕ) (f : ℕ) : Type 0 where
  pub untouched : ¬ (Contains these f)
  pub peer_there : (q : ℕ) → state_at old f ≡ state.Connected q → IsLive new q
  pub peer_untouched : (q : ℕ) → state_at old f ≡ state.Connected q → ¬ (Contains these q)
  pub target_there : (q : ℕ) → state_at old f ≡ state.Sends q → IsLive old q → IsLive new q
  pub target_untouched : (q : ℕ) → state_at old f ≡ state.Sends q → ¬ (Contains these q)
