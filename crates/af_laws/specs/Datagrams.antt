-- Laws of datagram sockets: their targets, what is sent to these, and what such sockets do not
-- have. Definitions that name no manual page are of this project's profile (docs/PROFILE.md).
use Rattle.std.specs.Prelude.{◌≡◌, ◌↔◌, ◌<◌, ℕ, true, false, List, [], ◌∷◌, ◌++◌, Some, None, filter_map}
use Rattle.af_base.specs.declared.errno.Errno.TheVariants.{EAGAIN, ECONNREFUSED}
use Rattle.af_base.specs.declared.events.Reply.{Reply}
use Rattle.af_base.specs.declared.events.Reply.TheVariants as reply
use Rattle.af_base.specs.declared.events.State.TheVariants as state
use Rattle.af_base.specs.declared.events.Step.TheVariants as step
use Rattle.af_base.specs.declared.ready.Ready.{Ready}
use Rattle.af_base.specs.World.{IsLive, Socket, World, is_live}
use Rattle.af_base.specs.Changes.{aimed, sends_elsewhere, with_name, with_socket}
use Rattle.af_base.specs.Pass.{Machine}
use Rattle.af_base.specs.Places.{held_by, queue_at, table_at}
use Rattle.af_base.specs.Reached.{Reached}
use Rattle.af_base.specs.Ready.{ready}
use Rattle.af_base.specs.Refusals.{first_fit, ino_named, is_connected, is_datagram, is_listening, on_parts, peer_of, process_at, refusal, socket_at}
use Rattle.af_base.specs.Run.{Run, RunEntry}
use Rattle.af_base.specs.Steps.{ProcessStep}
use Rattle.af_base.specs.Unheld.{IsSettled}
use Rattle.af_base.specs.Whole.{IsSound, IsWhole}
use Rattle.af_laws.specs.Connecting.{SameCounts}

-- No table is another, the same files are live, each socket holds what it held, the same files are
-- reached, and all counts are what they were.
pub record HoldsTheSame (old new : World) : Type 0 where
  pub tables : new.processes ≡ old.processes
  pub live : (f : ℕ) → is_live new f ≡ is_live old f
  pub held : (s : ℕ) → held_by new s ≡ held_by old s
  pub reached : (f : ℕ) → Reached new f ↔ Reached old f
  pub counts : SameCounts old new

-- A target is no place: a socket where nothing waits gets or loses one, and all is held, reached
-- and counted as before (unix(7)).
abbrev pub ATargetHoldsNothing : Type 0
ATargetHoldsNothing = (w : World) (s to : ℕ) → queue_at w s ≡ []
    → HoldsTheSame w (with_socket w s (aimed to))

-- A name is no place (bind(2)).
abbrev pub ANameHoldsNothing : Type 0
ANameHoldsNothing =
    (w : World) (s : ℕ) (name : List ℕ) → HoldsTheSame w (with_socket w s (with_name name))

-- A datagram socket at an open descriptor can always lose its target: there is no other answer,
-- also where it has none (connect(2), AF_UNSPEC).
abbrev pub UnconnectNeverFails : Type 0
UnconnectNeverFails = (old new : World) (p n f : ℕ) (s : Socket) (r : Reply)
    → table_at old p n ≡ Some f → socket_at old f ≡ Some s → is_datagram s.kind ≡ true
    → ProcessStep old p (step.Unconnect n) r new → r ≡ reply.Ok

-- The number q is not live. A send to it by a socket whose output is open, which is valid in its
-- parts, is refused by ECONNREFUSED.
pub record IsFreedTarget (w : World) (q : ℕ) : Type 0 where
  pub gone : ¬ (IsLive w q)
  pub refused : (p n f : ℕ) (bytes attach : List ℕ) (s : Socket) → table_at w p n ≡ Some f
      → socket_at w f ≡ Some s → s.state ≡ state.Sends q → s.ends.no_output ≡ false
      → first_fit (on_parts (table_at w p) bytes attach) ≡ None
      → refusal w p (step.Send n bytes attach) ≡ Some ECONNREFUSED

-- A number that was given and is not live is never live again: a socket that sends there sends to
-- nobody from then on, whatever happens (connect(2), ECONNREFUSED).
abbrev pub AFreedTargetStays : Type 0
AFreedTargetStays = (old new : Machine) (log : List RunEntry) (q : ℕ) → IsSound old.world
    → q < old.world.next_ino → ¬ (IsLive old.world q) → Run old log new → IsFreedTarget new.world q

-- A connect of a datagram socket that answers Ok, where the socket sent to another target, leaves
-- nothing in its queue (connect(2)).
abbrev pub AReconnectLosesWhatWaits : Type 0
AReconnectLosesWhatWaits = (old new : World) (p n f t : ℕ) (name : List ℕ) (s : Socket)
    → table_at old p n ≡ Some f → socket_at old f ≡ Some s → is_datagram s.kind ≡ true
    → s.state ≡ state.Sends t → ¬ (t ≡ ino_named old s.kind name)
    → ProcessStep old p (step.Connect n name) reply.Ok new → queue_at new f ≡ []

-- A send of a datagram socket that is done puts the message last in the queue of its target
-- (sendmsg(2)).
abbrev pub ASendGoesToTheTarget : Type 0
ASendGoesToTheTarget = (old new : World) (p n f q k : ℕ) (bytes attach : List ℕ) (s : Socket)
    → IsSettled old → table_at old p n ≡ Some f → socket_at old f ≡ Some s
    → s.state ≡ state.Sends q → ProcessStep old p (step.Send n bytes attach) (reply.Sent k) new
    → queue_at new q ≡ queue_at old q ++ (record {
      bytes = bytes;
      attached = filter_map (table_at old p) attach;
      user = (process_at old p).user;
    }) ∷ []

-- The file q is a live socket that takes from f: it does not send to another.
pub record TakesFrom (w : World) (f q : ℕ) : Type 0 where
  pub socket : Socket
  pub there : socket_at w q ≡ Some socket
  pub takes : sends_elsewhere f socket.state ≡ false

-- A connect of a datagram socket that answers Ok found a target that takes from it (connect(2),
-- ECONNREFUSED, EPERM).
abbrev pub ConnectsNeedATarget : Type 0
ConnectsNeedATarget = (old new : World) (p n f : ℕ) (name : List ℕ) (s : Socket)
    → table_at old p n ≡ Some f → socket_at old f ≡ Some s → is_datagram s.kind ≡ true
    → ProcessStep old p (step.Connect n name) reply.Ok new
    → TakesFrom old f (ino_named old s.kind name)

-- A send that is done, of any socket, had a target or a peer that takes from it (sendmsg(2),
-- ECONNREFUSED, EPERM).
abbrev pub SendsNeedATarget : Type 0
SendsNeedATarget = (old new : World) (p n f k : ℕ) (bytes attach : List ℕ) (s : Socket)
    → table_at old p n ≡ Some f → socket_at old f ≡ Some s
    → ProcessStep old p (step.Send n bytes attach) (reply.Sent k) new
    → TakesFrom old f (peer_of s.state)

-- A send of one byte at a socket that is writable is not refused by EAGAIN (poll(2), POLLOUT).
abbrev pub AWritableSocketDoesNotWait : Type 0
AWritableSocketDoesNotWait = (w : World) (p n f byte : ℕ) (s : Socket) (r : Ready) → IsSound w
    → table_at w p n ≡ Some f → socket_at w f ≡ Some s → ready w f ≡ Some r → r.writable ≡ true
    → ¬ (refusal w p (step.Send n (byte ∷ []) []) ≡ Some EAGAIN)

-- A receive from a datagram socket never answers End, also where its input is closed (recvmsg(2)).
abbrev pub DatagramsHaveNoEnd : Type 0
DatagramsHaveNoEnd = (old new : World) (p n f max_bytes max_fds : ℕ) (s : Socket) (r : Reply)
    → IsWhole old → table_at old p n ≡ Some f → socket_at old f ≡ Some s
    → is_datagram s.kind ≡ true → ProcessStep old p (step.Recv n max_bytes max_fds) r new
    → ¬ (r ≡ reply.End)

-- A socket that does not listen, never had a peer, and where no embryo waits.
pub record HasNoConnections (s : Socket) : Type 0 where
  pub silent : is_listening s.state ≡ false
  pub unconnected : is_connected s.state ≡ false
  pub backlog : s.backlog ≡ []

-- No datagram socket of a sound world listens, has a peer or a backlog (listen(2), EOPNOTSUPP).
abbrev pub DatagramsDoNotListen : Type 0
DatagramsDoNotListen = (w : World) (f : ℕ) (s : Socket) → IsSound w → socket_at w f ≡ Some s
    → is_datagram s.kind ≡ true → HasNoConnections s
