-- The results of an event's look-ups.
use Rattle.std.specs.Prelude.{◌≡◌, ◌<◌, ℕ, Bool, IfSome, IsTrue, List, None, Some, false, is_none, length, nat_eq, true}
use Rattle.std.specs.FinMap as map
use Rattle.af_base.specs.declared.events.Reply.TheVariants as reply
use Rattle.af_base.specs.declared.events.SockType.{SockType}
use Rattle.af_base.specs.declared.events.State.TheVariants as state
use Rattle.af_base.specs.declared.events.Step.TheVariants as step
use Rattle.af_base.specs.Changes.{aimed, sends_elsewhere, with_socket}
use Rattle.af_base.specs.Places.{table_at}
use Rattle.af_base.specs.Refusals.{is_datagram, is_full, refusal, room_of, socket_at, socket_on}
use Rattle.af_base.specs.Steps.{answer, effect, got_at, with_embryo}
use Rattle.af_base.specs.Whole.{IsWhole}
use Rattle.af_base.specs.World.{IsLive, Process, Socket, World}

-- The process p of the world is this one.
pub record HasProcess (w : World) (p : ℕ) (q : Process) : Type 0 where
  pub there : map.get w.processes p ≡ Some q

-- The process p of the world is this one, and its descriptor n refers to file f (open(2)).
pub record HasDescriptor (w : World) (p : ℕ) (q : Process) (n f : ℕ) : Type 0 where
  pub process : HasProcess w p q
  pub stands : map.get q.table n ≡ Some f

-- The descriptor n of process p refers to file f, which is this socket.
pub record HasSocket (w : World) (p : ℕ) (q : Process) (n f : ℕ) (x : Socket) : Type 0 where
  pub number : HasDescriptor w p q n f
  pub found : socket_at w f ≡ Some x

-- File f of a whole world is this socket.
pub record IsSocketOf (w : World) (f : ℕ) (x : Socket) : Type 0 where
  pub whole : IsWhole w
  pub found : socket_at w f ≡ Some x

-- A connect of process p at its descriptor n finds socket f, and the listener g of this name, with
-- room for an embryo of this type (connect(2)).
pub record HasListener (w : World) (p n : ℕ) (name : List ℕ) (f g : ℕ)
    (kind : SockType) : Type 0 where
  pub full : is_full w 1 ≡ false
  pub client : is_none (socket_at w f) ≡ false
  pub connections : IfSome (socket_at w f) (λ (s : Socket). is_datagram s.kind ≡ false)
  pub type : is_datagram kind ≡ false
  pub idle : IfSome (socket_at w f) (λ (s : Socket). s.state ≡ state.Idle)
  pub listener : is_none (socket_at w g) ≡ false
  pub room : IfSome (socket_at w g) (λ (s : Socket). length s.backlog < room_of s.state)
  pub leads : effect w p (step.Connect n name) ≡ with_embryo w f g kind

-- A connect of process p at its descriptor n finds datagram socket f, and its target g of this name,
-- which is live; f loses what waits there if it sent to another (connect(2)).
pub record HasTarget (w : World) (p n : ℕ) (name : List ℕ) (f g : ℕ) (loses : Bool) : Type 0 where
  pub tabled : table_at w p n ≡ Some f
  pub socket : is_none (socket_at w f) ≡ false
  pub datagrams : IfSome (socket_at w f) (λ (s : Socket). is_datagram s.kind ≡ true)
  pub target : IsLive w g
  pub turns : IfSome (socket_at w f) (λ (s : Socket). loses ≡ sends_elsewhere g s.state)
  pub leads : effect w p (step.Connect n name) ≡ with_socket w f (aimed g)

-- A receive of process p at its descriptor n, of at most this many bytes and descriptors, takes
-- from socket f, where a message waits, and installs files at these numbers (recvmsg(2)).
pub record HasMessage (w : World) (p n bytes fds f : ℕ) (ns : List ℕ) : Type 0 where
  pub some : 0 < bytes
  pub there : IsTrue (map.contains_key w.processes p)
  pub tabled : table_at w p n ≡ Some f
  pub socket : is_none (socket_at w f) ≡ false
  pub waiting : nat_eq (length (socket_on w p n).queue) 0 ≡ false
  pub numbers : ns ≡ got_at w p n bytes fds

-- Such a receive and such a peek find nothing, and the peer was freed: the reply is the end, and
-- the world stays as it is (recvmsg(2)).
pub record HasEnd (w : World) (p n bytes fds : ℕ) : Type 0 where
  pub fits : refusal w p (step.Recv n bytes fds) ≡ None
  pub answered : answer w p (step.Recv n bytes fds) ≡ reply.End
  pub received : effect w p (step.Recv n bytes fds) ≡ w
  pub peeked : effect w p (step.Peek n bytes fds) ≡ w
